mod Choosing
mod FitBlocks
mod Keeping
mod Lifts
mod Widening
