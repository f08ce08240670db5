use Prim.Native.Nat.{◌-◌, ◌*◌, ◌≤◌}
use mathlib.Core.Path.{◌≡◌}
use Rattle.proving.specs.Plans.{false_complements}
use Rattle.proving.proofs.false_complements.Given as goal

abbrev pub invariant-loop-l : goal.invariant-loop-l
invariant-loop-l l = (l.l ≤ l.plan.branches) × (l.plan.branches ≤ 8) × (l.sum ≤ l.l * 4294967296) × (l.sum ≡ false_complements l.q l.plan l.draws l.l)

abbrev pub decreases-loop-l : goal.decreases-loop-l
decreases-loop-l l = l.plan.branches - l.l
