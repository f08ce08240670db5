use native.Mathlib.Omega.{arith}
use lib.ListN.{length}
use Rattle.sha256.specs.Message.{sha256}
use Rattle.rules.specs.Notice.{text_outcome}
use Rattle.gooseoften.proofs.Codes.{told_placed}
use Rattle.gooseoften.proofs.Calls.{told}
use Rattle.gooseoften.proofs.gooseoften_text.Goals as goal

pub put_told-requires : goal.put_told-requires
put_told-requires c =
    let t = c.text in
    record {
      in_bounds = omega (arith, c.well_formed);
      told_bound = told_placed c.args.board.now c.args.names.now (length c.args.out.now) t.result _ t.ensures.out_after;
    }

pub returns : goal.returns
returns c =
    let a = c.args in
    let t = c.text in
    let e = c.put_told.ensures in
    let r = told (text_outcome sha256 a.board.now a.names.now (length a.out.now)) a.answer.now _ _ t.result _ t.ensures.out_after (e.by_index _) e.answer_after in
    record {
      value = r.0;
      answer_after = r.1;
      out_after = t.ensures.out_after_2;
    }
