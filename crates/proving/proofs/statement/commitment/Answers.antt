use mathlib.Core.Path.{◌∙◌}
use Rattle.proving.proofs.statement.commitment.Goals as goal

pub returns : goal.returns
returns c = c.mul.ensures ∙ rw (c.pow.ensures, c.pow-2.ensures)
