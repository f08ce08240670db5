use Prim.Native.Nat.{◌+◌, ◌-◌, ◌*◌, ◌≤◌}
use mathlib.Core.Path.{◌≡◌}
use Rattle.ballots.specs.Parts.{Witnessed}
use Rattle.ballots.proofs.sums.witnesses.Given as goal

abbrev pub invariant-loop-c : goal.invariant-loop-c
invariant-loop-c l = (l.c ≤ l.count) × (l.count ≤ 56) × (l.count ≡ l.s.rows * l.n) × Witnessed l.q l.n l.draws l.s.old l.s.new l.s.column l.s.struck (2 + l.c) l.w

abbrev pub decreases-loop-c : goal.decreases-loop-c
decreases-loop-c l = l.count - l.c
