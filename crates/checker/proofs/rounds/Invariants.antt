use Prim.Native.Nat.{◌-◌}
use mathlib.Core.Path.{◌≡◌}
use Rattle.sha256.specs.Message.{sha256}
use Rattle.rules.specs.Count.{table, start}
use Rattle.rules.specs.Check.{counts, check_from}
use Rattle.count.specs.State.{standing_of, Kept}
use Rattle.header.specs.Heads.{head_of}
use Rattle.round.specs.Rounds.{Begins}
use Rattle.checker.specs.Counts.{stops_from}
use Rattle.checker.proofs.rounds.Given as goal

abbrev pub invariant-loop-read : goal.invariant-loop-read
invariant-loop-read l =
    Begins l.reading.board.now l.h l.here.next l.round × (l.count.gone.outs ≡ l.round.m) × Kept l.count
    × (check_from sha256 l.reading.board.now (head_of l.reading.board.now l.h) l.h.n start 0 0 ≡ check_from sha256 l.reading.board.now (head_of l.reading.board.now l.h) (l.h.n - l.round.m) (standing_of l.h.n l.count) l.round.m l.round.a)
    × ((standing_of l.h.n l.count).sheets ≡ table l.round.m (counts l.reading.board.now (head_of l.reading.board.now l.h)))
    × (stops_from sha256 l.reading.board.now (head_of l.reading.board.now l.h) l.h.n start 0 0 ≡ stops_from sha256 l.reading.board.now (head_of l.reading.board.now l.h) (l.h.n - l.round.m) (standing_of l.h.n l.count) l.round.m l.round.a)
    × (l.here.board ≡ l.reading.board)

abbrev pub decreases-loop-read : goal.decreases-loop-read
decreases-loop-read l = l.h.n - l.round.m
