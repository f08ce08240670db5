use Prim.Native.Nat.{◌-◌}
use mathlib.Core.Path.{◌≡◌}
use Rattle.round.specs.Walks.{Walked}
use Rattle.checker.proofs.read_records.Given as goal

abbrev pub invariant-loop-walk : goal.invariant-loop-walk
invariant-loop-walk l = (l.here.board ≡ l.reading.board) × Walked l.reading.board.now l.h l.round l.here.next l.walk

abbrev pub decreases-loop-walk : goal.decreases-loop-walk
decreases-loop-walk l = l.h.k - l.walk.k
