use Rattle.std.proofs.Common.{◌∙◌, ◌||◌, rules, tests, length, eq-eqb}
use Rattle.std.proofs.lemmas.Iterator.{YieldsList-from_slice}
use Rattle.std.proofs.lemmas.Iterator.Search.{all_from_yields_List}
use Rattle.rules.specs.Records.{is_counted, is_audited}
use Rattle.validity.proofs.Lists.{all_of}
use Rattle.validity.proofs.kinds_good.Goals as goal

pub returns-then-kinds-k : goal.returns-then-kinds-k
returns-then-kinds-k c =
    let f = c.args in
    rw (eq-eqb (length f.kinds.now) f.k c.if-kinds-k.true)
    (all_from_yields_List (λ x. is_counted x || is_audited x) _ _ c.all.result c.all.ensures.ran (YieldsList-from_slice f.kinds.now cc) (λ x b q k. search (rules, tests))
    ∙ all_of (λ x. is_counted x || is_audited x) f.kinds.now f.k c.if-kinds-k.true)
