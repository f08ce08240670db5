use mathlib.Core.Path.{refl}
use Rattle.output.proofs.Laws.{more}
use Rattle.boards.proofs.sheet.write_tally.Goals as goal

pub returns : goal.returns
returns c = more _ _ _ _ _ _ refl c.put_number2.ensures c.put_number4.ensures
