use Prim.Native.Nat.{ℕ, ◌+◌, ◌*◌}
use mathlib.Core.Bool.{Bool}
use Rattle.statements.specs.Walks.{Strides}
use Rattle.statements.proofs.Reading.{Walked}
use Rattle.statements.proofs.walks.walk.Given as goal

abbrev pub invariant-loop : goal.invariant-loop
invariant-loop g l = (good : ℕ → Bool) (size : ℕ) → Strides (goal.F-pre g l.step) (goal.F-post g l.step) good size (l.at + size * l.count) → Walked good l.at size l.counter l.place
