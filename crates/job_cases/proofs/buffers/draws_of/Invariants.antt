use Prim.Native.Nat.{ℕ, ◌*◌, ◌-◌, ◌≤◌, ◌<◌}
use mathlib.Core.Path.{◌≡◌}
use lib.ListN.{length, get_or}
use Rattle.rules.specs.Bytes.{number4}
use Rattle.job_cases.proofs.buffers.draws_of.Given as goal

abbrev pub invariant-loop-i : goal.invariant-loop-i
invariant-loop-i l = (l.i ≤ l.count) × (32768 ≡ length l.draws) × ((k : ℕ) → k < l.i → get_or l.draws k 0 ≡ number4 l.bytes (4 * k))

abbrev pub decreases-loop-i : goal.decreases-loop-i
decreases-loop-i l = l.count - l.i
