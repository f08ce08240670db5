use Rattle.count.specs.State.{standing_of}
use mathlib.Core.Path.{refl}
use native.Mathlib.Omega.{arith}
use Rattle.count.proofs.Count.new.Goals as goal

pub returns : goal.returns
unfolding standing_of
returns c = (refl, record { listed = record { few = omega arith; order_long = refl; zeros = refl }; sheets_long = refl }, λ n. refl)
