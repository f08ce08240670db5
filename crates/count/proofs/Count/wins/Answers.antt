use Rattle.std.proofs.Common.{ℕ, Bool, sym, ap, ◌∙◌, List, rules}
use Rattle.rules.specs.Count.{behind, pick}
use Rattle.count.specs.State.{counts_on, standing_of}
use Rattle.count.proofs.Picks.{gone_is}
use Rattle.count.proofs.Count.wins.Goals as goal

pub returns : goal.returns
returns c =
    let a = c.args in
    let test : (best i : ℕ) → Bool = λ best i. behind (standing_of a.n a.self) (counts_on a.n a.sheet) best i in
    (c.pick.ensures.picked test (λ best i b l h m k post. search rules) ∙ ap (λ (gone : List ℕ). pick gone test a.n) (sym (gone_is a.n a.self)), c.pick.ensures.within)
