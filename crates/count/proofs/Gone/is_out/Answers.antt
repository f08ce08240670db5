use Rattle.std.proofs.Common.{◌∙◌, rules, take, eqb, tests}
use Rattle.std.proofs.lemmas.Iterator.{YieldsList-from_slice}
use Rattle.std.proofs.lemmas.Iterator.Search.{any_from_yields_List}
use Rattle.count.proofs.Members.{any_member}
use Rattle.count.proofs.Gone.is_out.Goals as goal

pub returns : goal.returns
returns c =
    let a = c.args in
    any_from_yields_List (λ x. eqb x a.c) _ _ c.any.result c.any.ensures.ran (YieldsList-from_slice (take a.self.outs a.self.order) cc) (λ x b q k. search (rules, tests)) ∙ any_member a.c _
