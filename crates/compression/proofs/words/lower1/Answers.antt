use Rattle.compression.specs.Words.{ROTR, σ₁}
use Rattle.compression.proofs.words.lower1.Goals as goal

pub returns : goal.returns
unfolding σ₁ ROTR
returns c = cc
