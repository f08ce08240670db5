use Prim.Native.Nat.{ℕ, ◌+◌, ◌-◌, ◌≤◌}
use mathlib.Core.Path.{◌≡◌}
use mathlib.Core.List.{List, ◌++◌}
use lib.ListN.{length, get_or}
use Rattle.numbers.specs.Below.{sum_below}
use Rattle.jobs.specs.Job.{record_draws}
use Rattle.output.specs.Written.{written}
use Rattle.boards.proofs.Columns.{columns_to}
use Rattle.boards.proofs.sheet.write_sheet.Given as goal

-- the draws of round m ahead of ballot b's record
abbrev pub ahead : (kinds : List ℕ) (n m b : ℕ) → ℕ
ahead kinds n m b = sum_below b (λ j. record_draws n (get_or kinds j 0) m)

abbrev pub columns : (q n k m from : ℕ) (kinds draws counts : List ℕ) (i : ℕ) → List ℕ
columns q n k m from kinds draws counts i = columns_to q n k (λ b. get_or kinds b 0) draws (λ b. from + ahead kinds n m b) counts i

abbrev pub invariant-loop-i : goal.invariant-loop-i
invariant-loop-i l =
    (l.i ≤ l.entries.head.n) × (length l.out ≡ length l.initial.out)
    × ((front o : List ℕ) → length front ≡ 4 → l.initial.out ≡ written front o → l.out ≡ written (front ++ columns l.entries.head.setup.group.q l.entries.head.n l.entries.head.k l.plan.m l.plan.new l.entries.kinds.now l.entries.draws.now l.plan.sheet.counts l.i) o)

abbrev pub decreases-loop-i : goal.decreases-loop-i
decreases-loop-i l = l.entries.head.n - l.i
