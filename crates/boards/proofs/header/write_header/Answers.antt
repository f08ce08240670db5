use mathlib.Core.Path.{refl}
use Rattle.output.proofs.Laws.{more}
use Rattle.boards.proofs.header.write_header.Goals as goal

pub returns : goal.returns
returns c =
    more _ _ _ _ _ _ refl (more _ _ _ _ _ _ refl (more _ _ _ _ _ _ refl (more _ _ _ _ _ _ refl c.put_two.ensures c.put_byte.ensures) c.put_number2.ensures) c.put_group.ensures) c.put_bytes.ensures
