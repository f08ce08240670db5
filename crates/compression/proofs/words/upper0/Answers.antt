use Rattle.compression.specs.Words.{ROTR, Σ₀}
use Rattle.compression.proofs.words.upper0.Goals as goal

pub returns : goal.returns
unfolding Σ₀ ROTR
returns c = cc
