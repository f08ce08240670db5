use Rattle.proving.proofs.branch.after_challenge.Goals as goal

pub returns-else-known : goal.returns-else-known
returns-else-known c = rw c.if-known.false
