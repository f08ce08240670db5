use Prim.Native.Nat.{◌-◌, ◌*◌, ◌≤◌}
use mathlib.Core.Path.{◌≡◌}
use lib.ListN.{length, get_or}
use Rattle.numbers.specs.Below.{concat_below}
use Rattle.group.specs.Elements.{parameters_of}
use Rattle.output.specs.Written.{written}
use Rattle.jobs.specs.Records.{matrix_of}
use Rattle.ballots.proofs.Pages.{pair_in}
use Rattle.ballots.proofs.pairs.write_pairs.Given as goal

abbrev pub invariant-loop-c : goal.invariant-loop-c
invariant-loop-c l =
    (l.c ≤ l.count) × (l.count ≤ 64) × (l.count ≡ l.rows * l.n) × (length l.out ≡ length l.initial.out)
    × (l.out ≡ written (concat_below l.c (pair_in l.n (matrix_of (parameters_of l.g) l.n (λ k. get_or l.list k 0) l.draws l.from))) l.initial.out)

abbrev pub decreases-loop-c : goal.decreases-loop-c
decreases-loop-c l = l.count - l.c
