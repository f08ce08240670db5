use Rattle.compression.specs.Words.{Ch, ¬w}
use Rattle.compression.proofs.words.ch.Goals as goal

pub returns : goal.returns
unfolding Ch ¬w
returns c = mathlib.Core.Path.refl
