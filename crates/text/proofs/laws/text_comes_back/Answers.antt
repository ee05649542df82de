use Rattle.text.proofs.Comes.{comes_back}
use Rattle.text.proofs.laws.text_comes_back.Goals as goal

pub returns : goal.returns
returns c = comes_back
