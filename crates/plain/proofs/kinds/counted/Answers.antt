use Rattle.std.proofs.Common.{◌≡◌, ◌≤◌, ◌∙◌, rules, tests, take, length, eqb, arith, length-take}
use Rattle.std.specs.List.{filter}
use Rattle.std.proofs.lemmas.Iterator.{YieldsList-from_slice}
use Rattle.std.proofs.lemmas.Iterator.Consumers.{YieldsList-from_filter, count_from_yields_List}
use Rattle.std.proofs.lemmas.List.Sums.{length-filter, count_by-le-length}
use Rattle.plain.proofs.Counts.{how_many}
use Rattle.plain.proofs.kinds.counted.Goals as goal

pub returns : goal.returns
returns c =
    let a = c.args in
    let xs = take a.k a.kinds.now in
    let told : c.count.result ≡ length (filter (λ x. eqb x 0) xs) =
    count_from_yields_List _ c.count.result c.count.ensures.ran (YieldsList-from_filter _ (λ x. eqb x 0) (YieldsList-from_slice xs cc) c.filter.ensures.closure (λ x b q k. search (rules, tests))) in
    let most : length xs ≤ a.k = simp length-take (omega arith) in
    (told ∙ how_many (λ x. eqb x 0) a.kinds.now a.k c.requires, omega (arith, told, length-filter (λ x. eqb x 0) xs, count_by-le-length (λ x. eqb x 0) xs, most))
