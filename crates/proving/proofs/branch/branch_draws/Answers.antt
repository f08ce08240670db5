use native.Mathlib.Omega.{arith}
use borrow.Author.Tests.{lt-ltb, le-ltb}
use Rattle.proving.proofs.branch.branch_draws.Goals as goal

pub returns-then-plan-l : goal.returns-then-plan-l
returns-then-plan-l c = rw (lt-ltb _ _ c.if-plan-l.true)

pub returns-else-plan-l : goal.returns-else-plan-l
returns-else-plan-l c = rw (le-ltb _ _ c.if-plan-l.false) (omega arith)
