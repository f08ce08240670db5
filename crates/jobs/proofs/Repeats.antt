-- Draws that are pairwise different.
use Prim.Native.Nat.{ℕ, ◌+◌, ◌<◌}
use mathlib.Core.Path.{◌≡◌, sym, ◌∙◌}
use mathlib.Core.Bool.{true, false, not, true≢false}
use mathlib.Core.List.{List}
use native.Mathlib.Omega.{arith}
use lib.Dec.{ltb, eqb}
use lib.ListN.{get_or}
use borrow.Author.Tests.{eq-eqb, ne_eqb, eqb-true, ltb-true, ltb-false, not-false}
use Rattle.numbers.specs.Below.{all_below}
use Rattle.numbers.proofs.Tests.{by_cases, all_true, all_at, all_none, all_more, all_fails, one_fails}
use Rattle.jobs.specs.Write.{different}

module _ (draws : List ℕ) (from : ℕ) where
  abbrev x : ℕ → ℕ
  x i = get_or draws (from + i) 0

  -- the j-th is none of those before it
  abbrev pub Fresh : (j : ℕ) → Type 0
  Fresh j = (i : ℕ) → i < j → x i ≡ x j → ⊥

  fresh_test : (j : ℕ) → Fresh j → all_below j (λ i. not (eqb (x i) (x j))) ≡ true
  fresh_test j h = all_true j _ (λ i l. rw (ne_eqb (x i) (x j) (h i l)))

  -- a loop: none yet, one more, one that repeats
  pub different_none : different draws from 0 ≡ true
  unfolding different
  different_none = all_none _

  pub different_more : (j : ℕ) → different draws from j ≡ true → Fresh j → different draws from (j + 1) ≡ true
  unfolding different
  different_more j h f = all_more j _ h (fresh_test j f)

  pub different_fails : (size i j : ℕ) → i < j → j < size → x i ≡ x j → different draws from size ≡ false
  unfolding different
  different_fails size i j a b e = all_fails size j _ b (all_fails j i _ a (rw (eq-eqb (x i) (x j) e)))

  -- as a statement
  pub different_at : (size : ℕ) → different draws from size ≡ true → (j : ℕ) → j < size → Fresh j
  unfolding different
  different_at size h j b i a e = true≢false (sym (all_at j (λ i. not (eqb (x i) (x j))) (all_at size _ h j b) i a) ∙ rw (eq-eqb (x i) (x j) e))

  pub different_same : (size : ℕ) → different draws from size ≡ true → (i j : ℕ) → i < size → j < size → x i ≡ x j → i ≡ j
  different_same size h i j a b e =
      by_cases (ltb i j)
      (λ l. absurd (different_at size h j b i (ltb-true i j l) e))
      (λ l. by_cases (ltb j i) (λ l'. absurd (different_at size h i a j (ltb-true j i l') (sym e))) (λ l'. omega (arith, ltb-false i j l, ltb-false j i l')))

  pub one_repeats : (size : ℕ) → different draws from size ≡ false → (i j : ℕ) × (i < j) × (j < size) × (x i ≡ x j)
  unfolding different
  one_repeats size h =
      let w = one_fails size _ h in
      let v = one_fails w.0 _ w.2 in
      (v.0, w.0, v.1, w.1, eqb-true _ _ (not-false _ v.2))
