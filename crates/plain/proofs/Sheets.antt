-- The counts of every round of a plain count are those of the rankings, with the first of the order gone out.
use Prim.Native.Nat.{ℕ, zero, suc, ◌+◌, ◌≤◌, ◌<◌}
use mathlib.Core.Path.{◌≡◌, refl, sym, ap, ◌∙◌}
use mathlib.Core.List.{List, [], ◌∷◌, ◌++◌}
use native.Mathlib.Omega.{arith}
use borrow.Author.Count.{below_more}
use lib.ListN.{length, get_or, take, length-append, get_or-append, get_or-map}
use lib.Seq.{get_or_at, get_or-take, take-length, take-append-le, take-take}
use Rattle.numbers.proofs.Tests.{by_cases}
use Rattle.rules.specs.Count.{Standing, Result, start, next, leaves, closes, counts_of, count_from, plain_count}
use Rattle.count.specs.declared.Sheet.{Sheet}
use Rattle.count.specs.declared.Ended.{Ended}
use Rattle.count.specs.State.{counts_on, result_of}

module _ (n : ℕ) (rankings : List (List ℕ)) (d : List ℕ) where
  -- those of the rounds so far
  record Sheeted (st : Standing) : Type 0 where
    many : length st.sheets ≡ length st.gone
    each : (m : ℕ) → m < length st.sheets → get_or st.sheets m d ≡ counts_of n rankings (take m st.gone)

  module _ (st : Standing) (w : Sheeted st) where
    abbrev here : List ℕ
    here = counts_of n rankings st.gone

    one_more : (m : ℕ) → m < length st.sheets + 1 → get_or (st.sheets ++ (here ∷ [])) m d ≡ counts_of n rankings (take m st.gone)
    one_more =
        below_more _ _ (λ m b. get_or-append st.sheets (here ∷ []) d m b ∙ w.each m b)
        (get_or_at st.sheets here [] d _ refl ∙ rw w.many (ap (counts_of n rankings) (sym (take-length st.gone))))

    onward : Sheeted (next n st here)
    onward =
        record {
          many = simp length-append (omega (arith, w.many));
          each =
              λ m b.
              let l : m < length st.sheets + 1 = omega (arith, length-append st.sheets (here ∷ [])) in
              one_more m l ∙ ap (counts_of n rankings) (sym (take-append-le m st.gone (leaves n st here ∷ []) (omega (arith, w.many))));
        }

  counts_from : (fuel : ℕ) (st : Standing) → Sheeted st → (m : ℕ) → m < (count_from n rankings fuel st).rounds →
      get_or (count_from n rankings fuel st).counts m d ≡ counts_of n rankings (take m (count_from n rankings fuel st).order)
  unfolding count_from
  counts_from zero st w = one_more st w
  counts_from (suc fuel) st w =
      by_cases (closes n st (here st w) (length rankings))
      (λ e. rw e (one_more st w))
      (λ e. rw e (counts_from fuel (next n st (here st w)) (onward st w)))

  plain_counts : (m : ℕ) → m < (plain_count n rankings).rounds → get_or (plain_count n rankings).counts m d ≡ counts_of n rankings (take m (plain_count n rankings).order)
  unfolding plain_count
  plain_counts = counts_from n start (record { many = refl; each = λ m h. absurd (omega arith) })

-- the sheets of a count that has ended
pub sheets_are : (n : ℕ) (rankings : List (List ℕ)) (e : Ended) → result_of n e ≡ plain_count n rankings → (t : Sheet) (m : ℕ) → m ≤ e.count.gone.outs →
    counts_on n (get_or e.count.sheets m t) ≡ counts_of n rankings (take m e.count.gone.order)
unfolding result_of
sheets_are n rankings e w t m h =
    let r : m < (plain_count n rankings).rounds = omega (arith, ap (λ (x : Result). x.rounds) w) in
    ap (counts_on n) (sym (get_or-take (e.count.gone.outs + 1) e.count.sheets m t (omega arith)))
    ∙ sym (get_or-map (counts_on n) (take (e.count.gone.outs + 1) e.count.sheets) m t)
    ∙ ap (λ (x : Result). get_or x.counts m (counts_on n t)) w
    ∙ plain_counts n rankings (counts_on n t) m r
    ∙ ap (λ (x : Result). counts_of n rankings (take m x.order)) (sym w)
    ∙ ap (counts_of n rankings) (take-take m e.count.gone.outs e.count.gone.order h)
