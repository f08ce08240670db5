-- What the line of a round tells, by the count that has ended.
use Prim.Native.Nat.{ℕ, ◌+◌, ◌*◌, ◌-◌, ◌≤◌}
use mathlib.Core.Path.{◌≡◌, sym, ap, ◌∙◌}
use mathlib.Core.Bool.{Bool, true, false, cond}
use mathlib.Core.List.{List, [], ◌++◌}
use native.Mathlib.Omega.{arith}
use lib.Dec.{eqb}
use lib.ListN.{length, get_or, take, length-append}
use lib.Seq.{get_or-take, take-take, length-take-le}
use borrow.Author.Tests.{eqb-true, eqb-false, eq-eqb, ne_eqb}
use Rattle.numbers.proofs.Tests.{by_cases}
use Rattle.rules.specs.Sentences.{opening, count_texts, ending, is_last, who_in, line}
use Rattle.rules.specs.Notice.{name_of}
use Rattle.count.specs.declared.Ended.{Ended}
use Rattle.count.specs.declared.Gone.{Gone}
use Rattle.count.specs.declared.Sheet.{Sheet}
use Rattle.count.specs.State.{counts_on, list_of, result_of, Kept}
use Rattle.count.proofs.Comparison.{map_at}
use Rattle.rules.proofs.Lines.{ending_long}
use Rattle.names.proofs.Starting.{name_few}
use Rattle.sentences.specs.declared.Named.{Named}
use Rattle.sentences.specs.Lines.{result_named, line_named}
use Rattle.sentences.specs.Pieces.{SinkLaws}

module _ (n : ℕ) (e : Ended) (m : ℕ) (k : Kept e.count) (l : m ≤ e.count.gone.outs) where
  pub who_wins : m ≡ e.count.gone.outs → e.winner ≡ who_in (result_of n e) m
  unfolding result_of
  who_wins q = rw (eq-eqb (m + 1) (e.count.gone.outs + 1) (omega arith))

  pub who_leaves : (m ≡ e.count.gone.outs → ⊥) → get_or e.count.gone.order m 0 ≡ who_in (result_of n e) m
  unfolding result_of
  who_leaves ne =
      rw (ne_eqb (m + 1) (e.count.gone.outs + 1) (λ q. ne (omega arith))) (sym (get_or-take e.count.gone.outs e.count.gone.order m 0 (omega arith)))

  pub is_last_lem : eqb m e.count.gone.outs ≡ is_last (result_of n e) m
  unfolding result_of
  is_last_lem =
      by_cases (eqb m e.count.gone.outs)
      (λ t. t ∙ sym (eq-eqb (m + 1) (e.count.gone.outs + 1) (omega (arith, eqb-true m e.count.gone.outs t))))
      (λ t. t ∙ sym (ne_eqb (m + 1) (e.count.gone.outs + 1) (λ q. eqb-false m e.count.gone.outs t (omega arith))))

  pub gone_before : take m e.count.gone.order ≡ take m (result_of n e).order
  unfolding result_of
  gone_before = sym (take-take m e.count.gone.outs e.count.gone.order l)

  pub counts_of_lem : (few : e.count.gone.outs ≤ 7) → counts_on n (get_or e.count.sheets m (record { counts = [] })) ≡ get_or (result_of n e).counts m []
  unfolding result_of
  counts_of_lem few =
      let d : Sheet = record { counts = [] } in
      let outs = e.count.gone.outs in
      sym (map_at (counts_on n) (take (outs + 1) e.count.sheets) m d [] (omega (arith, length-take-le (outs + 1) e.count.sheets (omega (arith, k.sheets_long))))
      ∙ rw (get_or-take (outs + 1) e.count.sheets m d (omega arith)))

-- ---- the line of a round, by its parts
verb_few : (last : Bool) → cond last 6 8 ≤ 8
verb_few true = omega arith
verb_few false = omega arith

-- those gone out before round m of a count, and the name of who leaves or wins in it
pub record Told (x : Named) (m : ℕ) (gone : Gone) (name : List ℕ) : Type 0 where
  pub inside : m ≤ x.ended.count.gone.outs
  pub gone_is : list_of gone ≡ take m x.ended.count.gone.order
  pub name_is : name ≡ name_of x.names.lent.now (who_in (result_named x) m - 1)

module _ {x : Named} {m : ℕ} {gone : Gone} {name : List ℕ} (told : Told x m gone name) where
  abbrev pub counts_part : List ℕ
  counts_part = count_texts (name_of x.names.lent.now) x.names.count (list_of gone) (counts_on x.names.count (get_or x.ended.count.sheets m (record { counts = [] })))

  abbrev pub ending_part : List ℕ
  ending_part = ending (eqb m x.ended.count.gone.outs) name

  pub line_is : opening m ++ counts_part ++ ending_part ≡ line_named x m
  unfolding line
  line_is =
      let n = x.names.count in
      let k = x.finished.kept in
      let l = told.inside in
      rw (
        told.name_is,
        is_last_lem n x.ended m k l,
        told.gone_is,
        gone_before n x.ended m k l,
        counts_of_lem n x.ended m k l x.finished.few,
      )

  pub name_short : length name ≤ 20
  name_short =
      let names = x.names in
      rw told.name_is
      (name_few names.lent.now names.starts names.count _ names.started (omega (arith, x.finished.low m told.inside, x.finished.high m told.inside)))

  pub line_few : length (opening m) ≤ 18 → length counts_part ≤ 40 * x.names.count → length (line_named x m) ≤ 400
  line_few o c =
      let few = x.names.started.few in
      let last = ending_long (eqb m x.ended.count.gone.outs) name in
      let verb = verb_few (eqb m x.ended.count.gone.outs) in
      omega (arith, ap length line_is, name_short, length-append (opening m ++ counts_part) ending_part, length-append (opening m) counts_part)

  module _ {X : Type 0} {fits : X → List ℕ → Type 0} {took : X → List ℕ → X → Type 0} (laws : SinkLaws fits took) {s : X} (all : fits s (line_named x m)) where
    whole : fits s (opening m ++ counts_part ++ ending_part)
    whole = rw line_is all

    pub opening_fits : fits s (opening m)
    opening_fits = laws.front _ _ counts_part (laws.front _ _ ending_part whole)

    pub counts_fit : {t : X} → took s (opening m) t → fits t counts_part
    counts_fit p = laws.rest _ _ (opening m) counts_part (laws.front _ _ ending_part whole) p

    pub ending_fits : {t u : X} → took s (opening m) t → took t counts_part u → fits u ending_part
    ending_fits p q = laws.rest _ _ (opening m ++ counts_part) ending_part whole (laws.both _ _ _ _ _ p q)
