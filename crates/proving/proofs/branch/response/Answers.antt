use mathlib.Core.Path.{◌∙◌}
use native.Mathlib.Nat.{add-mod-mod}
use Rattle.proving.proofs.branch.response.Goals as goal

pub returns : goal.returns
returns c = c.add.ensures ∙ rw (c.mul.ensures, add-mod-mod)
