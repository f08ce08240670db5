use native.Mathlib.Omega.{arith}
use Rattle.sha256.specs.Message.{sha256}
use Rattle.rules.specs.Check.{check_small}
use Rattle.gooseoften.proofs.Codes.{small_placed}
use Rattle.gooseoften.proofs.Calls.{checked}
use Rattle.gooseoften.proofs.gooseoften_check_small.Goals as goal

pub put_verdict-requires : goal.put_verdict-requires
put_verdict-requires c =
    let r = c.check_small in
    record {
      in_bounds = omega (arith, c.well_formed);
      verdict_bound = small_placed c.args.board.now r.result r.ensures.verdict;
    }

pub returns : goal.returns
returns c =
    let f = c.args in
    let r = c.check_small in
    let e = c.put_verdict.ensures in
    let w = checked (check_small sha256 f.board.now) f.answer.now _ r.result _ r.ensures.verdict r.ensures.order e.value e.answer_after in
    record { value = w.0; answer_after = w.1 }
