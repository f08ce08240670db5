-- A search over the numbers below a bound.
use Prim.Native.Nat.{ℕ, zero, suc, ◌+◌, ◌≤◌, ◌<◌}
use mathlib.Core.Path.{◌≡◌, refl, sym, subst}
use mathlib.Core.Bool.{Bool, true, false, cond, true≢false}
use mathlib.Core.Logic.{◌⊎◌, inl, inr, ⊎_elim}
use native.Mathlib.Nat.{eq-or-lt_of_le, le_of_suc-le-suc, lt_of_not-le}
use native.Mathlib.Numerals.{add-one}
use native.Mathlib.Omega.{arith}
use lib.Dec.{eqb, eqb-suc-zero}
use Rattle.numbers.specs.Below.{first_below}

-- what holds below n, and at n
pub extend {ℓ} : (P : ℕ → Type ℓ) (n : ℕ) → ((i : ℕ) → i < n → P i) → P n → (i : ℕ) → i < suc n → P i
extend P n f x i l = ⊎_elim (λ (e : i ≡ n). subst P (sym e) x) (λ (b : i < n). f i b) (eq-or-lt_of_le (le_of_suc-le-suc l))

-- some number below n
abbrev pub Some : (n : ℕ) (P : ℕ → Type 0) → Type 0
Some n P = (k : ℕ) × (k < n) × P k

abbrev pub None : (n : ℕ) (P : ℕ → Type 0) → Type 0
None n P = (i : ℕ) → i < n → ¬ P i

pub find : {P : ℕ → Type 0} (n : ℕ) → ((i : ℕ) → Dec (P i)) → Some n P ⊎ None n P
find zero dec = inr (λ i l. absurd (omega arith))
find {P} (suc n) dec = by (find n dec) (dec n)
  where
    by : Some n P ⊎ None n P → Dec (P n) → Some (suc n) P ⊎ None (suc n) P
    by (inl (k, l, h)) d = inl (k, omega arith, h)
    by (inr none) (yes h) = inl (n, omega arith, h)
    by (inr none) (no h) = inr (extend (λ i. ¬ P i) n none h)

-- ---- the first that passes a test
-- none of the first n passes, or one is the first
abbrev pub First : (n : ℕ) (f : ℕ → Bool) (r : ℕ) → Type 0
First n f r =
    ((r ≡ 0) × ((i : ℕ) → i < n → f i ≡ false))
    ⊎ ((j : ℕ) × (r ≡ suc j) × (j < n) × (f j ≡ true) × ((i : ℕ) → i < j → f i ≡ false))

pub first_is : (n : ℕ) (f : ℕ → Bool) → First n f (first_below n f)
unfolding first_below
first_is zero f = inl (refl, λ i l. absurd (omega arith))
first_is (suc n) f = by (first_below n f) (f n) refl (first_is n f)
  where
    by : (r : ℕ) (b : Bool) → f n ≡ b → First n f r → First (suc n) f (cond (eqb r 0) (cond b (suc n) 0) r)
    by r true e (inl (z, none)) = rw z (inr (n, refl, omega arith, e, none))
    by r false e (inl (z, none)) = rw z (inl (refl, extend (λ i. f i ≡ false) n none e))
    by r b e (inr (j, q, l, t, none)) = rw (q, eqb-suc-zero) (inr (j, refl, omega arith, t, none))

-- where one passes, the first that does comes no later
pub first_of : (n : ℕ) (f : ℕ → Bool) (k : ℕ) → k < n → f k ≡ true → (j : ℕ) × (first_below n f ≡ suc j) × (j ≤ k) × (f j ≡ true)
first_of n f k l t = by (first_is n f)
  where
    by : First n f (first_below n f) → (j : ℕ) × (first_below n f ≡ suc j) × (j ≤ k) × (f j ≡ true)
    by (inl (z, none)) = absurd (true≢false (rw t at (none k l)))
    by (inr (j, q, b, u, none)) = (j, q, le_of_suc-le-suc (lt_of_not-le (λ (m : k < j). true≢false (rw t at (none k m)))), u)

-- a loop that looks for it: none yet, one that does not pass, and the first that does
pub first_none : (f : ℕ → Bool) → first_below 0 f ≡ 0
unfolding first_below
first_none f = refl

pub first_passed : (k : ℕ) (f : ℕ → Bool) → first_below k f ≡ 0 → f k ≡ false → first_below (k + 1) f ≡ 0
unfolding first_below
first_passed k f e h = rw (add-one k, e, h)

pub first_found : (n k : ℕ) (f : ℕ → Bool) → k < n → first_below k f ≡ 0 → f k ≡ true → first_below n f ≡ k + 1
unfolding first_below
first_found zero k f l e h = absurd (omega arith)
first_found (suc n) k f l e h =
    ⊎_elim (λ (q : k ≡ n). rw (← q, e, h) (sym (add-one k))) (λ (b : k < n). rw (first_found n k f b e h, add-one k, eqb-suc-zero)) (eq-or-lt_of_le (le_of_suc-le-suc l))
