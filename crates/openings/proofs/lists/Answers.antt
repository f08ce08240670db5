use mathlib.Core.Path.{◌∙◌}
use borrow.Author.Tests.{tests}
use lib.Dec.{eqb}
use Rattle.std.proofs.Common.{rules}
use Rattle.std.proofs.lemmas.Iterator.{YieldsList-from_slice}
use Rattle.std.proofs.lemmas.Iterator.Search.{any_from_yields_List}
use Rattle.openings.proofs.Rankings.{any_is_member}
use Rattle.openings.proofs.lists.Goals as goal

pub returns : goal.returns
returns c =
    any_from_yields_List (λ x. eqb x c.args.process) _ _ _ c.any.ensures.ran (YieldsList-from_slice c.args.ranking.now cc) (λ x b q k. search (rules, tests))
    ∙ any_is_member c.args.process c.args.ranking.now
