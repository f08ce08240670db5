-- Names that pass 21 are good, and all that was lent is these names, each with its line feed.
use Prim.Native.Nat.{ℕ, zero, suc, ◌+◌, ◌≤◌, ◌<◌}
use mathlib.Core.Path.{◌≡◌, refl, sym, ap, ap₂, ◌∙◌}
use mathlib.Core.Bool.{true, false, true≢false, and-eq-true_iff}
use mathlib.Core.Logic.{⊎_elim}
use mathlib.Core.List.{List, [], ◌∷◌, ◌++◌}
use native.Mathlib.Nat.{eq-or-lt_of_le}
use native.Mathlib.Numerals.{add-one}
use native.Mathlib.Omega.{arith}
use lib.Dec.{leb}
use lib.ListN.{length, take, drop, length-drop}
use lib.Seq.{take_all, take-add, take-suc, get_or-drop}
use borrow.Author.Tests.{leb-true, leb-false, eqb-true, not-true}
use Rattle.numbers.specs.Below.{concat_below}
use Rattle.numbers.proofs.Blocks.{blocks_same}
use Rattle.numbers.proofs.Tests.{by_cases, all_at}
use Rattle.rules.specs.Receipts.{same}
use Rattle.rules.specs.Notice.{is_letter, letters_of, name_from, name_length, name_of, names_good}
use Rattle.rules.proofs.Digests.{same_refl}
use Rattle.rules.proofs.Names.{name_long, Fits, name_fits_lem}
use Rattle.whole.specs.Sentences.{GoodNames}
use Rattle.whole.proofs.Sentences.Decimals.{Each, each_at}

-- ---- the letters at the front
letters_front : (xs : List ℕ) → Each is_letter (take (letters_of xs) xs)
unfolding letters_of
letters_front [] = record {}
letters_front (x ∷ xs) = by_cases (is_letter x) (λ t. rw t (t, letters_front xs)) (λ t. rw t (record {}))

-- ---- names lent
module _ (lent : List ℕ) where
  module _ (n : ℕ) (good : names_good lent n ≡ true) where
    fits : (i : ℕ) → i < n → Fits lent i
    unfolding names_good
    fits i l = let w = simp and-eq-true_iff at good in name_fits_lem lent i (all_at n _ w.0.0 i l)

    ends : name_from lent n ≡ length lent
    unfolding names_good
    ends = let w = simp and-eq-true_iff at good in eqb-true _ _ w.0.1

    differ : (i j : ℕ) → i < n → j < i → name_of lent i ≡ name_of lent j → ⊥
    unfolding names_good
    differ i j l b e =
        let w = simp and-eq-true_iff at good in
        let f : same (name_of lent i) (name_of lent j) ≡ false = not-true _ (all_at i _ (all_at n _ w.1 i l) j b) in
        true≢false (sym (same_refl (name_of lent j)) ∙ rw e at f)

    pub good_names : GoodNames n (name_of lent)
    good_names =
        record {
          some = λ i l. rw (name_long lent i) (fits i l).some;
          few = λ i l. rw (name_long lent i) (fits i l).few;
          letters = λ i d l b. each_at is_letter (name_of lent i) (letters_front (drop (name_from lent i) lent)) d b;
          different = λ i j l k e.
              by_cases (leb i j)
              (λ t. ⊎_elim (λ (q : i ≡ j). q) (λ (b : i < j). absurd (differ j i k b (sym e))) (eq-or-lt_of_le (leb-true i j t)))
              (λ t. absurd (differ i j l (leb-false i j t) e));
        }

    -- the name of process i + 1 with its line feed
    block : (i : ℕ) → i < n → take (name_length lent i + 1) (drop (name_from lent i) lent) ≡ name_of lent i ++ (10 ∷ [])
    block i l =
        let d = drop (name_from lent i) lent in
        let k = name_length lent i in
        let inside : k < length d = simp length-drop (omega (arith, (fits i l).inside)) in
        ap (λ (t : ℕ). take t d) (add-one k) ∙ take-suc d k 0 inside ∙ ap (λ (x : ℕ). take k d ++ (x ∷ [])) (get_or-drop (name_from lent i) lent k 0 ∙ (fits i l).feed)

    front : (i : ℕ) → i ≤ n → take (name_from lent i) lent ≡ concat_below i (λ j. name_of lent j ++ (10 ∷ []))
    unfolding name_from concat_below
    front zero l = refl
    front (suc i) l =
        let e : name_from lent i + name_length lent i + 1 ≡ name_from lent i + (name_length lent i + 1) = omega arith in
        rw e (take-add (name_from lent i) (name_length lent i + 1) lent ∙ ap₂ ◌++◌ (front i (omega arith)) (block i (omega arith)))

    all_lent : lent ≡ concat_below n (λ j. name_of lent j ++ (10 ∷ []))
    all_lent = sym (take_all (name_from lent n) lent (omega (arith, ends))) ∙ front n (omega arith)

pub lent_same : (lent lent' : List ℕ) (n : ℕ) → names_good lent n ≡ true → names_good lent' n ≡ true → ((i : ℕ) → i < n → name_of lent i ≡ name_of lent' i) → lent ≡ lent'
lent_same lent lent' n g g' h =
    all_lent lent n g ∙ blocks_same n _ _ (λ i l. ap (λ (t : List ℕ). t ++ (10 ∷ [])) (h i l)) ∙ sym (all_lent lent' n g')
