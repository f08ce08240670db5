use Rattle.std.proofs.Common.{◌≡◌, ◌∙◌, rules, tests, take, eqb, sym, arith, length-take-le}
use Rattle.std.specs.List.{position}
use Rattle.std.proofs.lemmas.Iterator.{YieldsList-from_slice}
use Rattle.std.proofs.lemmas.Iterator.Search.{position_from_yields_List}
use Rattle.plain.proofs.Lists.{row_is}
use Rattle.plain.proofs.rankings.row_of.Goals as goal

pub returns : goal.returns
returns c =
    let a = c.args in
    let xs = take a.size a.list in
    let told : c.position.result ≡ position (λ x. eqb x a.a) xs =
    position_from_yields_List (λ x. eqb x a.a) _ _ c.position.result c.position.ensures.ran (YieldsList-from_slice xs cc) (λ x b q k. search (rules, tests)) in
    c.unwrap_or.ensures ∙ rw told (row_is a.a xs a.size (sym (length-take-le a.size a.list (omega (arith, c.well_formed)))))
