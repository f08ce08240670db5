-- The letters at a place, and the names that are lent.
use Prim.Native.Nat.{ℕ, suc, ◌+◌, ◌≤◌, ◌<◌}
use mathlib.Core.Path.{◌≡◌, sym, ◌∙◌}
use mathlib.Core.Bool.{true, false, and-eq-true_iff}
use mathlib.Core.List.{List, [], ◌∷◌}
use native.Mathlib.Nat.{lt_of_not-le}
use native.Mathlib.Numerals.{add-one}
use native.Mathlib.Omega.{arith}
use lib.ListN.{length, get_or, drop, drop_of_length-le, get_or-eq_default}
use lib.Seq.{drop-cons, length-take-le}
use borrow.Author.Tests.{leb-true, eqb-true}
use Rattle.numbers.proofs.Tests.{by_cases}
use Rattle.rules.specs.Notice.{is_letter, letters_of, letters_at, name_from, name_length, name_of, name_fits}

pub letters_within : (xs : List ℕ) → letters_of xs ≤ length xs
unfolding letters_of
letters_within [] = omega arith
letters_within (x ∷ xs) = by_cases (is_letter x) (λ t. rw t (omega (arith, letters_within xs))) (λ t. rw t (omega arith))

-- past the end, at what is no letter, and at a letter
module _ (s : List ℕ) (i : ℕ) where
  pub letters_none : length s ≤ i → letters_at s i ≡ 0
  unfolding letters_of
  letters_none l = rw (drop_of_length-le s l)

  pub letters_end : i < length s → is_letter (get_or s i 0) ≡ false → letters_at s i ≡ 0
  unfolding letters_of
  letters_end l e = rw (drop-cons s i 0 l, e)

  pub letters_more : i < length s → is_letter (get_or s i 0) ≡ true → letters_at s i ≡ suc (letters_at s (i + 1))
  unfolding letters_of
  letters_more l e = rw (drop-cons s i 0 l, e, add-one i)

-- ---- names lent
module _ (lent : List ℕ) (i : ℕ) where
  pub name_long : length (name_of lent i) ≡ name_length lent i
  name_long = length-take-le _ (drop (name_from lent i) lent) (letters_within (drop (name_from lent i) lent))

  -- a name with its line feed
  pub record Fits : Type 0 where
    pub some : 1 ≤ name_length lent i
    pub few : name_length lent i ≤ 20
    pub feed : get_or lent (name_from lent i + name_length lent i) 0 ≡ 10
    pub inside : name_from lent i + name_length lent i < length lent

  pub name_fits_lem : name_fits lent i ≡ true → Fits
  name_fits_lem h =
      let w = simp and-eq-true_iff at h in
      let feed = eqb-true _ 10 w.1 in
      record {
        some = leb-true 1 _ w.0.0;
        few = leb-true _ 20 w.0.1;
        feed = feed;
        inside = lt_of_not-le (λ (b : length lent ≤ name_from lent i + name_length lent i). omega (arith, sym (get_or-eq_default lent 0 b) ∙ feed));
      }
