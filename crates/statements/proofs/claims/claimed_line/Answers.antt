use mathlib.Core.Path.{refl, ◌∙◌}
use Rattle.group.specs.Elements.{parameters_of}
use Rattle.statements.proofs.PlainClaims.{said, line_said_lem}
use Rattle.statements.proofs.claims.claimed_line.Goals as goal

pub returns : goal.returns
returns c =
    said _ _ _ _ c.mul.ensures refl
    ∙ line_said_lem (parameters_of c.args.g.group) c.args.g.inverse.0 c.requires.ready.inverse c.args.count _ _ _ _ c.product-b.ensures c.product.ensures
