use Rattle.compression.specs.Block.{T₁}
use Rattle.compression.proofs.temp1.Goals as goal

pub returns : goal.returns
unfolding T₁
returns c = cc
