use Rattle.checker.proofs.Onward.{verified_order}
use Rattle.checker.proofs.check_small.Goals as goal

pub returns-clause-order : goal.returns-clause-order
returns-clause-order c = rw c.small.ensures at (verified_order _ _ _ _ _ c.check_model.ensures)
