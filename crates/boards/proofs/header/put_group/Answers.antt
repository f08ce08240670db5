use mathlib.Core.Path.{refl}
use Rattle.output.proofs.Laws.{more}
use Rattle.boards.proofs.header.put_group.Goals as goal

pub returns : goal.returns
returns c = more _ _ _ _ _ _ refl (more _ _ _ _ _ _ refl (more _ _ _ _ _ _ refl (more _ _ _ _ _ _ refl c.put_number4.ensures c.put_number4-2.ensures) c.put_number4-3.ensures) c.put_byte.ensures) c.put_number4-4.ensures
