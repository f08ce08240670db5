use mathlib.Core.Path.{refl, ◌∙◌}
use Rattle.output.proofs.Laws.{more}
use Rattle.ballots.proofs.pairs.put_pair.Goals as goal

pub returns : goal.returns
returns c =
    more _ _ _ _ _ _ refl c.put_number4.ensures c.put_number4-2.ensures
    ∙ rw (c.mul-b.ensures, c.pow-y.ensures, c.pow-2.ensures, c.pow.ensures)
