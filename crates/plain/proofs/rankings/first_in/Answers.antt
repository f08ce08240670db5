use Rattle.std.proofs.Common.{◌≡◌, ◌∙◌, ◌+◌, ◌-◌, rules, tests, take, drop, sym, arith, ap, map}
use Rattle.std.proofs.lemmas.List.{map-id}
use Rattle.std.specs.List.{find}
use Rattle.std.specs.Option.{unwrap_or}
use Rattle.std.proofs.lemmas.Iterator.{YieldsList-from_slice, YieldsList-from_map}
use Rattle.std.proofs.lemmas.Iterator.Adapters.{option_map_id}
use Rattle.std.proofs.lemmas.Iterator.Search.{find_from_yields_List}
use Rattle.rules.specs.Bytes.{part}
use Rattle.rules.specs.Count.{still_in}
use Rattle.count.specs.State.{list_of}
use Rattle.plain.proofs.Firsts.{first_is}
use Rattle.plain.proofs.rankings.first_in.Goals as goal

pub returns : goal.returns
returns c =
    let a = c.args in
    let gone = list_of a.gone in
    let xs = part a.rankings.now a.at a.n in
    let many : a.at + a.n - a.at ≡ a.n = omega arith in
    let cut : take (a.at + a.n - a.at) (drop a.at a.rankings.now) ≡ xs = rw many in
    let told : c.find.result ≡ find (λ i. still_in a.n gone i) (map (λ i. i) xs) =
    sym (option_map_id c.find.result)
    ∙ find_from_yields_List (λ i. still_in a.n gone i) _ _ c.find.result c.find.ensures.ran
    (YieldsList-from_map _ (λ i. i) (YieldsList-from_slice xs cc) c.map.ensures.closure (λ x r q k. search rules)) (λ x b q k. search (rules, tests)) in
    c.unwrap_or.ensures ∙ ap (λ o. unwrap_or o 0) (told ∙ ap (find (λ i. still_in a.n gone i)) (map-id xs)) ∙ first_is a.n gone xs
