use native.Mathlib.Omega.{arith}
use Rattle.gooseoften.proofs.answers.put_verdict.Goals as goal

pub code-requires : goal.code-requires
code-requires c = omega (arith, rw c.in-Err.is at c.requires.verdict_bound)

pub returns-in-Ok : goal.returns-in-Ok
returns-in-Ok c =
    let e = c.in-Ok.is in record {
      value = rw e;
      answer_after = rw e c.put_result.ensures;
    }

pub returns-in-Err : goal.returns-in-Err
returns-in-Err c =
    let e = c.in-Err.is in record {
      value = rw e c.code.ensures;
      answer_after = rw e;
    }
