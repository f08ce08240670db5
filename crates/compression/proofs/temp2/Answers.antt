use Rattle.compression.specs.Block.{T₂}
use Rattle.compression.proofs.temp2.Goals as goal

pub returns : goal.returns
unfolding T₂
returns c = cc
