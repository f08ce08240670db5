use native.Mathlib.Omega.{arith}
use Rattle.output.proofs.Laws.{more}
use Rattle.gooseoften.proofs.answers.put_reply.Goals as goal

pub code-requires : goal.code-requires
code-requires c = rw c.in-Err.is at c.requires.reply_bound

pub returns-in-Ok : goal.returns-in-Ok
returns-in-Ok c =
    let e = c.in-Ok.is in
    record {
      value = rw e;
      answer_after = rw e (more _ _ _ _ _ _ (omega (arith, c.well_formed)) c.put_result.ensures c.put_one.ensures);
    }

pub returns-in-Err : goal.returns-in-Err
returns-in-Err c =
    let e = c.in-Err.is in record {
      value = rw e c.code.ensures;
      answer_after = rw e;
    }
