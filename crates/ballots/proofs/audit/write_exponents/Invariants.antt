use Prim.Native.Nat.{◌+◌, ◌-◌, ◌≤◌}
use mathlib.Core.Path.{◌≡◌}
use lib.ListN.{length, get_or}
use Rattle.numbers.specs.Below.{concat_below}
use Rattle.rules.specs.Bytes.{bytes4}
use Rattle.output.specs.Written.{written}
use Rattle.ballots.proofs.audit.write_exponents.Given as goal

abbrev pub invariant-loop-c : goal.invariant-loop-c
invariant-loop-c l = (l.c ≤ l.count) × (length l.out ≡ length l.initial.out) × (l.out ≡ written (concat_below l.c (λ d. bytes4 (get_or l.draws (l.from + d) 0))) l.initial.out)

abbrev pub decreases-loop-c : goal.decreases-loop-c
decreases-loop-c l = l.count - l.c
