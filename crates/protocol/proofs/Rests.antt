-- What the proofs about runs rest on: the laws of the frames and of the activation formats, and nothing else of them.
use Rattle.activation.specs.Laws.{ReadsRats, ReadsAts, ReadsPps, ReadsPpsAnswer, TakesPpsAnswer}
use Rattle.frames.specs.Laws.{TwoMore, BeginsWithItsBody, OpensToItsBody, OpensIfSealed, ReadsItsFrame, NeverReadsNoise}

pub record Laws : Type 0 where
  pub two_more : TwoMore
  pub begins : BeginsWithItsBody
  pub opens : OpensToItsBody
  pub sealed : OpensIfSealed
  pub reads : ReadsItsFrame
  pub never : NeverReadsNoise
  pub rats : ReadsRats
  pub ats : ReadsAts
  pub pps : ReadsPps
  pub pps_answer_lem : ReadsPpsAnswer
  pub takes_answer : TakesPpsAnswer
