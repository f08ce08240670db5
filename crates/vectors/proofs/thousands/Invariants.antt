use mathlib.Core.Path.{◌≡◌}
use Prim.Native.Nat.{◌*◌, ◌-◌, ◌≤◌}
use lib.ListN.{replicate}
use Rattle.sha256.specs.Feed.{Fed}
use Rattle.vectors.proofs.thousands.Given as goal

abbrev pub invariant-loop : goal.invariant-loop
invariant-loop l = (l.counter ≤ l.n) × Fed l.h (replicate (l.counter * 1000) l.byte) × (l.piece ≡ replicate 1000 l.byte)

abbrev pub decreases-loop : goal.decreases-loop
decreases-loop l = l.n - l.counter
