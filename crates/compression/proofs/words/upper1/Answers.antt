use Rattle.compression.specs.Words.{ROTR, Σ₁}
use Rattle.compression.proofs.words.upper1.Goals as goal

pub returns : goal.returns
unfolding Σ₁ ROTR
returns c = cc
