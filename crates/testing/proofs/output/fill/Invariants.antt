use Rattle.std.proofs.Common.{ℕ, ◌≡◌, ◌%◌, ◌<◌, length, get_or}
use Rattle.testing.proofs.output.fill.Given as goal

abbrev pub invariant-loop-i : goal.invariant-loop-i
invariant-loop-i l = (k : ℕ) → k < l.i → get_or l.out k 0 ≡ k % 251
