use Rattle.std.proofs.Common.{ℕ, Bool, ◌+◌, refl, ◌∙◌, rules, tests, get_or, arith}
use Rattle.std.proofs.lemmas.Iterator.{YieldsList-from_range}
use Rattle.std.proofs.lemmas.Iterator.Search.{any_from_yields_List}
use Rattle.rules.specs.Count.{member}
use Rattle.count.specs.State.{list_of, passes}
use Rattle.count.proofs.Members.{any_number}
use Rattle.count.proofs.Picks.{majority_is}
use Rattle.count.proofs.Count.majority.Goals as goal

pub returns : goal.returns
returns c =
    let a = c.args in
    let test : ℕ → Bool = λ i. passes (member (i + 1) (list_of a.self.gone)) (get_or a.sheet.counts i 0) a.k in
    any_from_yields_List test _ _ c.any.result c.any.ensures.ran (YieldsList-from_range 0 a.n a.n refl (omega arith)) (λ x b q k. search (rules, tests)) ∙ any_number a.n test ∙ majority_is a.n a.self a.sheet a.k
