use mathlib.Core.Path.{refl}
use Rattle.output.proofs.Laws.{more}
use Rattle.ballots.proofs.pairs.put_ballot_front.Goals as goal

pub returns : goal.returns
returns c =
    more _ _ _ _ _ _ refl
    (more _ _ _ _ _ _ refl (more _ _ _ _ _ _ refl c.put_two.ensures c.put_number2.ensures) c.put_byte.ensures)
    c.put_bytes.ensures
