use Prim.Native.Nat.{ℕ}
use mathlib.Core.Path.{◌≡◌, refl, sym, ap, ◌∙◌}
use mathlib.Core.Bool.{true, not}
use mathlib.Core.List.{List, []}
use lib.Dec.{eqb}
use Rattle.sha256.specs.Message.{sha256}
use Rattle.rules.specs.Group.{orders}
use Rattle.rules.specs.Header.{ranked, sizes}
use Rattle.rules.specs.declared.Model.{Model}
use Rattle.jobs.specs.Write.{label_good, rankings_good, kinds_good}
use Rattle.parameters.proofs.Rules.{orders_positive}
use Rattle.validity.specs.Jobs.{job_of}
use Rattle.validity.specs.Tests.{JobTested}
use Rattle.validity.proofs.Tests.{group_positive, label_is, well_ranked, refused, stops_sizes, stops_orders, stops_label, stops_length, stops_ranking, stops_kinds, stops_uncounted}
use Rattle.validity.proofs.up_to_kinds.Goals.{After-label_good, After-sizes_good, In_default, In_ok-due, In_ok-due-2, In_ok-due-3, In_ok-due-5}
use Rattle.validity.proofs.up_to_kinds.Goals as goal

sizes_told : (c : goal.After-sizes_good) → let j = c.args.job in c.sizes_good.result ≡ sizes ranked j.n j.k
sizes_told c = let j = c.args.job in c.sizes_good.ensures ∙ ap (λ (m : Model). sizes m j.n j.k) c.ranked.ensures

label_told : (c : goal.After-label_good) (draws : List ℕ) → let f = c.args in c.label_good.result ≡ label_good sha256 (job_of f.job f.label.now f.rankings.now f.kinds.now draws)
label_told c draws = let f = c.args in label_is (job_of f.job f.label.now f.rankings.now f.kinds.now draws) _ _ c.label_good.ensures c.group_of-group.ensures

-- the tests that have passed
sized : (c : goal.In_ok-due) → let j = c.args.job in sizes ranked j.n j.k ≡ true
sized c = let j = c.args.job in sym (c.sizes_good.ensures ∙ ap (λ (m : Model). sizes m j.n j.k) c.ranked.ensures) ∙ c.in_ok-due.ensures

ordered : (c : goal.In_ok-due-2) → let j = c.args.job in orders j.n j.k j.p j.q ≡ true
ordered c = sym c.orders_good.ensures ∙ c.in_ok-due-2.ensures

labelled : (c : goal.In_ok-due-3) (draws : List ℕ) → let f = c.args in label_good sha256 (job_of f.job f.label.now f.rankings.now f.kinds.now draws) ≡ true
labelled c draws = let f = c.args in sym (label_is (job_of f.job f.label.now f.rankings.now f.kinds.now draws) _ _ c.label_good.ensures c.group_of-group.ensures) ∙ c.in_ok-due-3.ensures

ranked_well : (c : goal.In_default) (draws : List ℕ) → let f = c.args in rankings_good (job_of f.job f.label.now f.rankings.now f.kinds.now draws) ≡ true
ranked_well c draws =
    let f = c.args in
    let job = job_of f.job f.label.now f.rankings.now f.kinds.now draws in
    well_ranked job c.in_ok-due-4.ensures (c.in_default.ensures job refl refl)

kinds_well : (c : goal.In_ok-due-5) (draws : List ℕ) → let f = c.args in kinds_good (job_of f.job f.label.now f.rankings.now f.kinds.now draws) ≡ true
kinds_well c draws = sym c.kinds_good.ensures ∙ c.in_ok-due-5.ensures

pub returns-in_err-due : goal.returns-in_err-due
returns-in_err-due c draws =
    let f = c.args in
    let w = c.in_err-due.ensures in
    let job = job_of f.job f.label.now f.rankings.now f.kinds.now draws in
    refused job _ _ _ c.from_residual.ensures.1 w.1 w.2 (λ out. stops_sizes job out (sym (sizes_told (goal.at.returns-in_err-due c).After-sizes_good) ∙ w.0))

pub returns-in_err-due-2 : goal.returns-in_err-due-2
returns-in_err-due-2 c draws =
    let f = c.args in
    let at = goal.at.returns-in_err-due-2 c in
    let w = c.in_err-due-2.ensures in
    let job = job_of f.job f.label.now f.rankings.now f.kinds.now draws in
    refused job _ _ _ c.from_residual-in_err-due-2.ensures.1 w.1 w.2 (λ out. stops_orders job out (sized at.In_ok-due) (sym c.orders_good.ensures ∙ w.0))

pub group_of-group-requires : goal.group_of-group-requires
group_of-group-requires c = orders_positive _ _ _ _ (ordered c)

pub label_good-requires : goal.label_good-requires
label_good-requires c =
    let f = c.args in
    group_positive (job_of f.job f.label.now f.rankings.now f.kinds.now []) _ c.group_of-group.ensures (ordered (goal.at.label_good-requires c).In_ok-due-2)

pub returns-in_err-due-3 : goal.returns-in_err-due-3
returns-in_err-due-3 c draws =
    let f = c.args in
    let at = goal.at.returns-in_err-due-3 c in
    let w = c.in_err-due-3.ensures in
    let job = job_of f.job f.label.now f.rankings.now f.kinds.now draws in
    refused job _ _ _ c.from_residual-in_err-due-3.ensures.1 w.1 w.2 (λ out. stops_label job out (sized at.In_ok-due) (ordered at.In_ok-due-2) (sym (label_told at.After-label_good draws) ∙ w.0))

pub returns-in_err-due-4 : goal.returns-in_err-due-4
returns-in_err-due-4 c draws =
    let f = c.args in
    let at = goal.at.returns-in_err-due-4 c in
    let w = c.in_err-due-4.ensures in
    let job = job_of f.job f.label.now f.rankings.now f.kinds.now draws in
    refused job _ _ _ c.from_residual-in_err-due-4.ensures.1 w.1 w.2 (λ out. stops_length job out (sized at.In_ok-due) (ordered at.In_ok-due-2) (labelled at.In_ok-due-3 draws) w.0)

pub returns-in-Some : goal.returns-in-Some
unfolding JobTested
returns-in-Some c draws out =
    let f = c.args in
    let at = goal.at.returns-in-Some c in
    let job = job_of f.job f.label.now f.rankings.now f.kinds.now draws in
    let first = c.in-Some.ensures job refl refl in
    stops_ranking job out (sized at.In_ok-due) (ordered at.In_ok-due-2) (labelled at.In_ok-due-3 draws) c.in_ok-due-4.ensures _ first.1 first.0

pub returns-in_err-due-5 : goal.returns-in_err-due-5
returns-in_err-due-5 c draws =
    let f = c.args in
    let at = goal.at.returns-in_err-due-5 c in
    let w = c.in_err-due-5.ensures in
    let job = job_of f.job f.label.now f.rankings.now f.kinds.now draws in
    refused job _ _ _ c.from_residual-in_err-due-5.ensures.1 w.1 w.2
    (λ out. stops_kinds job out (sized at.In_ok-due) (ordered at.In_ok-due-2) (labelled at.In_ok-due-3 draws) (ranked_well at.In_default draws) (sym c.kinds_good.ensures ∙ w.0))

pub returns-in_err-due-6 : goal.returns-in_err-due-6
returns-in_err-due-6 c draws =
    let f = c.args in
    let at = goal.at.returns-in_err-due-6 c in
    let w = c.in_err-due-6.ensures in
    let job = job_of f.job f.label.now f.rankings.now f.kinds.now draws in
    refused job _ _ _ c.from_residual-in_err-due-6.ensures.1 w.1 w.2
    (λ out. stops_uncounted job out (sized at.In_ok-due) (ordered at.In_ok-due-2) (labelled at.In_ok-due-3 draws) (ranked_well at.In_default draws) (kinds_well at.In_ok-due-5 draws)
    (sym (ap (λ (m : ℕ). not (eqb m 0)) c.counted.ensures.0) ∙ w.0))

pub returns : goal.returns
unfolding JobTested
returns c draws =
    let at = goal.at.returns c in (
      record {
        sized = sized at.In_ok-due;
        ordered = ordered at.In_ok-due-2;
        labelled = labelled at.In_ok-due-3 draws;
        ranked = ranked_well at.In_default draws;
        kinds = kinds_well at.In_ok-due-5 draws;
        some_counted_lem = sym (ap (λ (m : ℕ). not (eqb m 0)) c.counted.ensures.0) ∙ c.in_ok-due-6.ensures;
      },
      c.group_of-group.ensures,
    )
