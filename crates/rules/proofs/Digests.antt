-- Laws of digests: byte for byte the same, and in rising order.
use Prim.Native.Nat.{ℕ, zero, suc, ◌+◌, ◌-◌, ◌≤◌, ◌<◌}
use mathlib.Core.Path.{◌≡◌, refl, ◌∙◌}
use mathlib.Core.Bool.{Bool, true, ◌&&◌, ◌||◌, false≢true, or-true, and-eq-true_iff}
use mathlib.Core.List.{List, [], ◌∷◌}
use mathlib.Core.Logic.{◌⊎◌, inl, inr, ⊎_elim}
use native.Mathlib.Nat.{eq-or-lt_of_le}
use native.Mathlib.Numerals.{add-one}
use native.Mathlib.Omega.{arith}
use lib.Dec.{ltb, eqb}
use borrow.Author.Tests.{ltb-true, lt-ltb, leb-true, eqb-true, eq-eqb}
use Rattle.numbers.proofs.Tests.{by_cases, and_true, all_at}
use Rattle.rules.specs.Receipts.{digest_count, digest_at, same, not_above, digests_good}

pub same_true : (a b : List ℕ) → same a b ≡ true → a ≡ b
unfolding same
same_true [] [] h = refl
same_true [] (y ∷ b) h = absurd (false≢true h)
same_true (x ∷ a) [] h = absurd (false≢true h)
same_true (x ∷ a) (y ∷ b) h = let w = (and-eq-true_iff (eqb x y) (same a b)).0 h in cc (eqb-true x y w.0, same_true a b w.1)

pub same_refl : (a : List ℕ) → same a a ≡ true
unfolding same
same_refl [] = refl
same_refl (x ∷ a) = and_true (eq-eqb x x refl) (same_refl a)

-- ---- the order, by first bytes
lower : (x y : ℕ) (t : Bool) → (ltb x y || (eqb x y && t)) ≡ true → (x < y) ⊎ ((x ≡ y) × (t ≡ true))
lower x y t h =
    by_cases (ltb x y) (λ l. inl (ltb-true x y l)) (λ l. let w = (and-eq-true_iff (eqb x y) t).0 (rw l at h) in inr (eqb-true x y w.0, w.1))

lower_first : (x y : ℕ) (t : Bool) → x < y → (ltb x y || (eqb x y && t)) ≡ true
lower_first x y t l = rw (lt-ltb x y l)

lower_rest : (x y : ℕ) (t : Bool) → x ≡ y → t ≡ true → (ltb x y || (eqb x y && t)) ≡ true
lower_rest x y t e h = rw (eq-eqb x y e, h, or-true)

pub not_above_refl : (a : List ℕ) → not_above a a ≡ true
unfolding not_above
not_above_refl [] = refl
not_above_refl (x ∷ a) = lower_rest x x _ refl (not_above_refl a)

pub not_above_trans : (a b c : List ℕ) → not_above a b ≡ true → not_above b c ≡ true → not_above a c ≡ true
unfolding not_above
not_above_trans [] b c p q = refl
not_above_trans (x ∷ a) [] c p q = absurd (false≢true p)
not_above_trans (x ∷ a) (y ∷ b) [] p q = absurd (false≢true q)
not_above_trans (x ∷ a) (y ∷ b) (z ∷ c) p q = go (lower x y _ p) (lower y z _ q) (not_above_trans a b c)
  where
    go : (x < y) ⊎ ((x ≡ y) × (not_above a b ≡ true)) → (y < z) ⊎ ((y ≡ z) × (not_above b c ≡ true)) →
        (not_above a b ≡ true → not_above b c ≡ true → not_above a c ≡ true) → (ltb x z || (eqb x z && not_above a c)) ≡ true
    go (inl l) (inl m) ih = lower_first x z _ (omega arith)
    go (inl l) (inr (e, t)) ih = lower_first x z _ (omega arith)
    go (inr (e, t)) (inl m) ih = lower_first x z _ (omega arith)
    go (inr (e, t)) (inr (f, u)) ih = lower_rest x z _ (e ∙ f) (ih t u)

pub not_above_same : (a b : List ℕ) → not_above a b ≡ true → not_above b a ≡ true → a ≡ b
unfolding not_above
not_above_same [] [] p q = refl
not_above_same [] (y ∷ b) p q = absurd (false≢true q)
not_above_same (x ∷ a) [] p q = absurd (false≢true p)
not_above_same (x ∷ a) (y ∷ b) p q = go (lower x y _ p) (lower y x _ q) (not_above_same a b)
  where
    go : (x < y) ⊎ ((x ≡ y) × (not_above a b ≡ true)) → (y < x) ⊎ ((y ≡ x) × (not_above b a ≡ true)) →
        (not_above a b ≡ true → not_above b a ≡ true → a ≡ b) → x ∷ a ≡ y ∷ b
    go (inl l) (inl m) ih = absurd (omega arith)
    go (inl l) (inr (e, t)) ih = absurd (omega arith)
    go (inr (e, t)) (inl m) ih = absurd (omega arith)
    go (inr (e, t)) (inr (f, u)) ih = let r = ih t u in cc

-- ---- a list of digests
-- where none is above the next, none is above a later one
module _ (digests : List ℕ) (good : digests_good digests ≡ true) where
  neighbours : (i : ℕ) → i < digest_count digests - 1 → not_above (digest_at digests i) (digest_at digests (i + 1)) ≡ true
  unfolding digests_good
  neighbours = let w = simp and-eq-true_iff at good in all_at (digest_count digests - 1) _ w.1

  pub few_digests : digest_count digests ≤ 500
  unfolding digests_good
  few_digests = let w = simp and-eq-true_iff at good in leb-true (digest_count digests) 500 w.0.1

  pub rising : (i j : ℕ) → i ≤ j → j < digest_count digests → not_above (digest_at digests i) (digest_at digests j) ≡ true
  rising i zero l b = let e : i ≡ 0 = omega arith in rw e (not_above_refl (digest_at digests 0))
  rising i (suc j) l b =
      ⊎_elim
      (λ (e : i ≡ suc j). rw e (not_above_refl (digest_at digests (suc j))))
      (λ (m : i < suc j).
      not_above_trans (digest_at digests i) (digest_at digests j) (digest_at digests (suc j)) (rising i j (omega arith) (omega arith)) (rw (add-one j) at (neighbours j (omega arith))))
      (eq-or-lt_of_le l)
