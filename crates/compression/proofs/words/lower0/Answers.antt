use Rattle.compression.specs.Words.{ROTR, σ₀}
use Rattle.compression.proofs.words.lower0.Goals as goal

pub returns : goal.returns
unfolding σ₀ ROTR
returns c = cc
