use Rattle.std.proofs.Common.{◌≡◌, ◌+◌, ◌-◌, ◌≤◌, length}
use Rattle.boardcheck.proofs.input.read_whole.Given as goal

abbrev pub invariant-loop-at : goal.invariant-loop-at
invariant-loop-at g l = (length l.room ≡ length l.initial.room) × (l.at ≤ length l.room)

-- each turn moves a byte or uses up a try
abbrev pub decreases-loop-at : goal.decreases-loop-at
decreases-loop-at g l = (length l.initial.room - l.at) + l.tries
