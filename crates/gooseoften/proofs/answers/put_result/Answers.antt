use mathlib.Core.Path.{refl}
use Rattle.output.proofs.Laws.{more}
use Rattle.gooseoften.proofs.answers.put_result.Goals as goal

pub returns : goal.returns
returns c = more _ _ _ _ _ _ refl c.put_pair.ensures c.put_order.ensures
