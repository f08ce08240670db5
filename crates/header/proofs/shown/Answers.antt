use Rattle.rules.specs.Header.{header}
use Rattle.header.proofs.shown.Goals as goal

pub returns : goal.returns
unfolding header
returns c = rw (c.number4.ensures, c.number4-2.ensures, c.as_element.ensures, c.as_element-2.ensures)
