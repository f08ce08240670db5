use Rattle.std.proofs.Common.{◌∙◌, ◌&&◌, rules, tests, length, take, leb, ltb, le-leb}
use Rattle.std.proofs.lemmas.Iterator.{YieldsList-from_slice}
use Rattle.std.proofs.lemmas.Iterator.Search.{all_from_yields_List}
use Rattle.validity.proofs.Lists.{all_front}
use Rattle.validity.proofs.draws_good.Goals as goal

pub returns-then-needed-draws : goal.returns-then-needed-draws
returns-then-needed-draws c =
    let f = c.args in
    rw (le-leb f.needed (length f.draws.now) c.if-needed-draws.true)
    (all_from_yields_List (λ x. leb 1 x && ltb x f.q) _ _ c.all.result c.all.ensures.ran (YieldsList-from_slice (take f.needed f.draws.now) cc) (λ x b q k. search (rules, tests))
    ∙ all_front (λ x. leb 1 x && ltb x f.q) f.draws.now f.needed c.if-needed-draws.true)
