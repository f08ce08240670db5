use Prim.Native.Nat.{◌+◌, ◌*◌, ◌≤◌}
use mathlib.Core.Path.{◌≡◌}
use lib.ListN.{get_or}
use Rattle.jobs.specs.Job.{round_draws, round_at}
use Rattle.plain.proofs.rounds.measure_of.Given as goal

abbrev pub invariant-loop-m : goal.invariant-loop-m
invariant-loop-m l = (l.needed ≡ round_draws l.n (λ i. get_or l.kinds i 0) l.k l.m) × (l.length ≡ round_at l.n (λ i. get_or l.kinds i 0) l.k l.m) × (l.needed ≤ l.m * 1000000) × (l.length ≤ 54 + l.m * 20000000)
