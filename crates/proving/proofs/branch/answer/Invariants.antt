use Prim.Native.Nat.{ℕ, ◌+◌, ◌-◌, ◌*◌, ◌≤◌}
use mathlib.Core.Path.{◌≡◌}
use mathlib.Core.List.{List}
use lib.ListN.{length}
use Rattle.rules.specs.Bytes.{bytes4, part}
use Rattle.output.specs.Written.{written}
use Rattle.jobs.specs.Prover.{branch_bytes}
use Rattle.proving.specs.Plans.{answers}
use Rattle.proving.proofs.branch.answer.Given as goal

abbrev pub invariant-loop-i : goal.invariant-loop-i
invariant-loop-i l =
    (l.i ≤ l.statements) × (length l.out ≡ length l.initial.out)
    × ((o : List ℕ) → length o ≡ length l.initial.out → l.initial.out ≡ written (bytes4 l.e.0) o →
    l.out ≡ written (branch_bytes l.e.0 l.i (λ i. part o (4 + 12 * i) 8) (answers l.q l.e.0 l.witness l.draws l.at)) o)

abbrev pub decreases-loop-i : goal.decreases-loop-i
decreases-loop-i l = l.statements - l.i
