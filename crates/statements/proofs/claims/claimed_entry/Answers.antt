use mathlib.Core.Path.{refl, ◌∙◌}
use Rattle.group.specs.Elements.{parameters_of}
use Rattle.statements.proofs.PlainClaims.{said, entry_one}
use Rattle.statements.proofs.claims.claimed_entry.Goals as goal

pub returns-else-l-eq0 : goal.returns-else-l-eq0
returns-else-l-eq0 c =
    rw (← c.as_element-b.ensures, ← c.as_element-right.ensures)
    (said _ _ _ _ c.mul-left.ensures refl
    ∙ entry_one (parameters_of c.args.g.group) c.args.g.inverse.0 c.requires.ready.inverse _ _ _ c.if-l-eq0.false)
