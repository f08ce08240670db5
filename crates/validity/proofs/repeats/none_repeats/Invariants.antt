use Prim.Native.Nat.{ℕ}
use mathlib.Core.Path.{◌≡◌}
use mathlib.Core.Bool.{true}
use mathlib.Core.List.{List}
use lib.ListN.{get_or}
use Rattle.numbers.specs.Below.{all_below}
use Rattle.jobs.specs.Job.{round_draws, draws_at}
use Rattle.validity.proofs.Walk.{record_good, round_good}
use Rattle.validity.proofs.repeats.none_repeats.Given as goal

abbrev pub kind_at : (kinds : List ℕ) (i : ℕ) → ℕ
kind_at kinds i = get_or kinds i 0

abbrev pub invariant-loop-b : goal.invariant-loop-b
invariant-loop-b l = (l.at ≡ draws_at l.n (kind_at l.kinds) l.k l.m l.b) × (all_below l.b (record_good l.draws l.n (kind_at l.kinds) l.k l.m) ≡ true)

abbrev pub invariant-loop-m : goal.invariant-loop-m
invariant-loop-m l = (l.at ≡ round_draws l.n (kind_at l.kinds) l.k l.m) × (all_below l.m (round_good l.draws l.n (kind_at l.kinds) l.k) ≡ true)
