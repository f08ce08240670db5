use Rattle.gooseoften.proofs.answers.found_code.Goals as goal

pub code-requires : goal.code-requires
code-requires c = rw c.in-Err.is at c.requires

pub returns-in-Ok : goal.returns-in-Ok
returns-in-Ok c numbers = rw c.in-Ok.is

pub returns-in-Err : goal.returns-in-Err
returns-in-Err c numbers = rw c.in-Err.is c.code.ensures
