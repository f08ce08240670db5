use mathlib.Core.Path.{◌≡◌}
use mathlib.Core.Bool.{true}
use native.Mathlib.Omega.{arith}
use Rattle.std.proofs.lemmas.Result.{err_from_is_err_and}
use Rattle.rules.specs.Check.{some_counted}
use Rattle.header.specs.Heads.{head_of}
use Rattle.round.proofs.RecordAt.{not_last, some_last, none_last, first_refused, first_passed, first_none}
use Rattle.round.proofs.Walked.{counted_with, few_ballots}
use Rattle.round.proofs.read_first.Goals.{else-number-h-via-then-number-h+else-counted_after-eq0, else-number-h-via-else-number-h}
use Rattle.round.proofs.read_first.Goals as goal

pub returns-in_err-next : goal.returns-in_err-next
returns-in_err-next c =
    let p = err_from_is_err_and c.from_residual.result c.from_residual.ensures.1 in
    rw (p.1, p.2) (first_refused c.args.board.now c.args.h _ _ _ _ _ c.requires.3 c.requires.1.here _ c.in_err-next.ensures)

pub counted_after-requires : goal.counted_after-requires
counted_after-requires c = (c.requires.1.ballot_fits, omega (arith, few_ballots c.args.board.now c.args.h c.requires.0 c.args.round c.args.at c.args.walk c.requires.1 c.requires.2))

pub returns-then-counted_after-eq0 : goal.returns-then-counted_after-eq0
returns-then-counted_after-eq0 c =
    let a = c.args in
    first_none a.board.now a.h _ _ _ _ c.in_ok-next.ensures _ c.requires.3 c.requires.1.here
    (none_last a.board.now (head_of a.board.now a.h) _ c.if-number-h.true _ (counted_with a.board.now a.h c.requires.0 a.round a.at a.walk c.requires.1 _ c.counted_after.ensures) c.if-counted_after-eq0.true)

pub returns : goal.returns
returns c =
    let a = c.args in
    let some : some_counted a.board.now (head_of a.board.now a.h) a.walk.k ≡ true =
    elim c.else-number-h.branch [
      | else-number-h-via-then-number-h+else-counted_after-eq0 w ↦
          some_last a.board.now (head_of a.board.now a.h) _ w.if-number-h.true _ (counted_with a.board.now a.h c.requires.0 a.round a.at a.walk c.requires.1 _ w.counted_after.ensures) w.if-counted_after-eq0.false
      | else-number-h-via-else-number-h w ↦ not_last a.board.now (head_of a.board.now a.h) _ w.if-number-h.false
    ] in
    first_passed a.board.now a.h _ _ _ _ c.in_ok-next.ensures _ c.requires.3 c.requires.1.here some
