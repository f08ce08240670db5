use Rattle.std.proofs.Common.{◌≡◌, ◌*◌, ◌≤◌, get_or}
use Rattle.numbers.specs.Below.{sum_below}
use Rattle.rules.specs.Records.{record_length}
use Rattle.jobs.specs.Job.{record_draws}
use Rattle.plain.proofs.rounds.measure_round.Given as goal

abbrev pub invariant-loop-kind : goal.invariant-loop-kind
invariant-loop-kind l =
    (l.needed ≡ sum_below l.kind-index (λ i. record_draws l.n (get_or l.kinds i 0) l.m)) × (l.length ≡ sum_below l.kind-index (λ i. record_length l.n (get_or l.kinds i 0) l.m))
    × (l.needed ≤ l.kind-index * 1000) × (l.length ≤ l.kind-index * 10000)
