use native.Mathlib.Omega.{arith}
use Rattle.sha256.specs.Message.{sha256}
use Rattle.rules.specs.Check.{check_board}
use Rattle.gooseoften.proofs.Codes.{placed}
use Rattle.gooseoften.proofs.Calls.{checked}
use Rattle.gooseoften.proofs.gooseoften_check.Goals as goal

pub put_verdict-requires : goal.put_verdict-requires
put_verdict-requires c =
    let r = c.check in
    record {
      in_bounds = omega (arith, c.well_formed);
      verdict_bound = placed c.args.board.now r.result r.ensures.verdict;
    }

pub returns : goal.returns
returns c =
    let f = c.args in
    let r = c.check in
    let e = c.put_verdict.ensures in
    let w = checked (check_board sha256 f.board.now) f.answer.now _ r.result _ r.ensures.verdict r.ensures.order e.value e.answer_after in
    record { value = w.0; answer_after = w.1 }
