use Prim.Native.Nat.{◌+◌, ◌-◌, ◌*◌, ◌≤◌}
use mathlib.Core.Path.{◌≡◌}
use mathlib.Core.Bool.{cond}
use lib.ListN.{get_or}
use Rattle.numbers.specs.Below.{sum_below}
use Rattle.rules.specs.Records.{is_counted}
use Rattle.jobs.specs.Job.{record_draws}
use Rattle.boards.proofs.sheet.column_sum.Given as goal

abbrev pub invariant-loop-b : goal.invariant-loop-b
invariant-loop-b l =
    (l.b ≤ l.entries.head.k) × (l.sum ≤ l.b * 4294967296) × (l.at ≤ l.from + l.b * 1000) × (l.at ≡ l.from + sum_below l.b (λ i. record_draws l.entries.head.n (get_or l.entries.kinds.now i 0) l.m))
    × (l.sum ≡ sum_below l.b (λ d. cond (is_counted (get_or l.entries.kinds.now d 0)) (get_or l.entries.draws.now (l.from + sum_below d (λ i. record_draws l.entries.head.n (get_or l.entries.kinds.now i 0) l.m)) 0) 0))

abbrev pub decreases-loop-b : goal.decreases-loop-b
decreases-loop-b l = l.entries.head.k - l.b
