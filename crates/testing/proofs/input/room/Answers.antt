use Prim.Native.Nat.{ℕ}
use mathlib.Core.Path.{sym}
use lib.ListN.{length-replicate, get_or-replicate}
use Rattle.testing.proofs.input.room.Goals as goal

pub returns : goal.returns
returns c = (sym (length-replicate {A = ℕ} 2359296 0), λ i h. get_or-replicate {A = ℕ} 2359296 i 0 0 h)
