use Prim.Native.Nat.{◌*◌}
use mathlib.Core.Path.{◌∙◌, refl}
use native.Mathlib.Omega.{arith}
use borrow.Author.Tests.{tests}
use Rattle.std.proofs.Common.{rules}
use Rattle.std.proofs.lemmas.Iterator.{YieldsList-from_range}
use Rattle.std.proofs.lemmas.Iterator.Search.{all_from_yields_List}
use Rattle.group.specs.Elements.{parameters_of}
use Rattle.openings.specs.Shown.{opens_at}
use Rattle.openings.proofs.Rankings.{all_from_none}
use Rattle.openings.proofs.matrix_opens.Goals as goal

pub returns : goal.returns
unfolding opens_at
returns c =
    let a = c.args in
    let count = a.n * a.n in
    all_from_yields_List (opens_at a.s.now (parameters_of a.g) a.n a.pairs a.shown) _ _ _ c.all.ensures.ran (YieldsList-from_range 0 count count refl (omega arith)) (λ x b q k. search (rules, tests))
    ∙ all_from_none _ count
