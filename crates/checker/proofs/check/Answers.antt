use Rattle.checker.proofs.Onward.{verified_order}
use Rattle.checker.proofs.check.Goals as goal

pub returns-clause-order : goal.returns-clause-order
returns-clause-order c = verified_order _ _ _ _ _ c.count_board.ensures
