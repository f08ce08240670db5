use Rattle.gooseoften.proofs.answers.put_told.Goals as goal

pub code-requires : goal.code-requires
code-requires c = rw c.in-Err.is at c.requires.told_bound

pub returns-in-Ok : goal.returns-in-Ok
returns-in-Ok c =
    let e = c.in-Ok.is in record {
      by_index = λ out. rw e;
      answer_after = rw e c.put_one.ensures;
    }

pub returns-in-Err : goal.returns-in-Err
returns-in-Err c =
    let e = c.in-Err.is in record {
      by_index = λ out. rw e c.code.ensures;
      answer_after = rw e;
    }
