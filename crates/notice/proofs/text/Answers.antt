use mathlib.Core.Path.{ap, ◌∙◌}
use lib.ListN.{length}
use Rattle.std.proofs.lemmas.Result.{err_from_is_err_and}
use Rattle.rules.specs.Notice.{Telling, output_after}
use Rattle.notice.proofs.Telling.{unchanged}
use Rattle.notice.proofs.Boards.{refused_alike, ends, tells, finished}
use Rattle.notice.proofs.text.Goals as goal

pub returns-in_err-accepted : goal.returns-in_err-accepted
returns-in_err-accepted c =
    let a = c.args in
    let r = c.count_board-counted in
    let w = unchanged _ _ _ a.out.now (refused_alike a.board.now a.names.now (length a.out.now) r.result r.ensures _ c.in_err-accepted.was) in
    let p = err_from_is_err_and c.from_residual.result c.from_residual.ensures.1 in
    record { out_after = rw (p.1, p.2) w.0; out_after_2 = w.1 }

pub tell-requires : goal.tell-requires
tell-requires c =
    let a = c.args in
    let r = c.count_board-counted in
    let was = c.in_ok-accepted.was in
    ((ends a.board.now a.names.now (length a.out.now) r.result r.ensures _ was).high, finished a.board.now a.names.now (length a.out.now) r.result r.ensures _ was)

pub returns : goal.returns
returns c =
    let a = c.args in
    let r = c.count_board-counted in
    let e = tells a.board.now a.names.now (length a.out.now) r.result r.ensures _ c.in_ok-accepted.was in
    record {
      out_after = c.tell.ensures.out_after ∙ e;
      out_after_2 = c.tell.ensures.out_after_2 ∙ ap (λ (t : Telling). output_after t a.out.now) e;
    }
