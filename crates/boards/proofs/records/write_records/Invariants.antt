use Prim.Native.Nat.{ℕ, suc, ◌+◌, ◌-◌, ◌*◌, ◌≤◌}
use mathlib.Core.Path.{◌≡◌}
use lib.ListN.{length, get_or}
use Rattle.numbers.specs.Below.{sum_below, concat_below}
use Rattle.sha256.specs.Message.{sha256}
use Rattle.rules.specs.Records.{record_length}
use Rattle.jobs.specs.Job.{record_draws}
use Rattle.jobs.specs.Board.{record_bytes}
use Rattle.output.specs.Written.{written}
use Rattle.count.specs.State.{list_of}
use Rattle.boards.specs.Parts.{board_job, head_group}
use Rattle.boards.proofs.records.write_records.Given as goal

abbrev pub invariant-loop-b : goal.invariant-loop-b
invariant-loop-b l =
    (l.b ≤ l.entries.head.k) × (length l.out ≡ length l.initial.out) × (l.at ≡ sum_below l.b (λ i. record_length l.entries.head.n (get_or l.entries.kinds.now i 0) l.plan.m))
    × (l.new ≡ l.plan.new + sum_below l.b (λ i. record_draws l.entries.head.n (get_or l.entries.kinds.now i 0) l.plan.m))
    × ((j : ℕ) → l.plan.m ≡ suc j → l.old ≡ l.plan.old + sum_below l.b (λ i. record_draws l.entries.head.n (get_or l.entries.kinds.now i 0) j))
    × (l.new ≤ l.plan.new + l.b * 1000) × (l.old ≤ l.plan.old + l.b * 1000) × (l.at ≤ l.b * 10000)
    × (l.out ≡ written (concat_below l.b (record_bytes sha256 (board_job l.entries) (head_group l.entries.head) (list_of l.plan.before) l.plan.a l.plan.m)) l.initial.out)

abbrev pub decreases-loop-b : goal.decreases-loop-b
decreases-loop-b l = l.entries.head.k - l.b
