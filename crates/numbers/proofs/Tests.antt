-- Tests that hold or fail: conjunctions, and tests of all numbers below a bound.
use Prim.Native.Nat.{ℕ, zero, suc, ◌+◌, ◌*◌, ◌≤◌, ◌<◌}
use mathlib.Core.Path.{◌≡◌, refl}
use mathlib.Core.Bool.{Bool, true, false, ◌&&◌, ◌||◌, true≢false, or-true, and-eq-true_iff, and_assoc, and-true as and_unit}
use mathlib.Core.Logic.{⊎_elim}
use native.Mathlib.Nat.{eq-or-lt_of_le, le_of_suc-le-suc, add-zero, add-suc, zero-mul, suc-mul}
use native.Mathlib.Numerals.{add-one}
use native.Mathlib.Omega.{arith}
use Rattle.numbers.specs.Below.{all_below, any_below}
use Rattle.numbers.proofs.Search.{extend}

pub by_cases {ℓ} : {P : Type ℓ} (b : Bool) → (b ≡ true → P) → (b ≡ false → P) → P
by_cases true f g = f refl
by_cases false f g = g refl

pub and_true : {a b : Bool} → a ≡ true → b ≡ true → a && b ≡ true
and_true p q = rw (p, q)

pub all_true : (n : ℕ) (f : ℕ → Bool) → ((i : ℕ) → i < n → f i ≡ true) → all_below n f ≡ true
unfolding all_below
all_true zero f h = refl
all_true (suc n) f h = and_true (all_true n f (λ i l. h i (omega arith))) (h n (omega arith))

pub all_at : (n : ℕ) (f : ℕ → Bool) → all_below n f ≡ true → (i : ℕ) → i < n → f i ≡ true
unfolding all_below
all_at zero f h i l = absurd (omega arith)
all_at (suc n) f h i l =
    let w = (and-eq-true_iff (all_below n f) (f n)).0 h in
    extend (λ (i : ℕ). f i ≡ true) n (λ i b. all_at n f w.0 i b) w.1 i l

-- where not all pass, one fails
pub one_fails : (n : ℕ) (f : ℕ → Bool) → all_below n f ≡ false → (i : ℕ) × (i < n) × (f i ≡ false)
unfolding all_below
one_fails zero f h = absurd (true≢false h)
one_fails (suc n) f h = go (all_below n f) refl (one_fails n f)
  where
    go : (b : Bool) → all_below n f ≡ b → (all_below n f ≡ false → (i : ℕ) × (i < n) × (f i ≡ false)) → (i : ℕ) × (i < suc n) × (f i ≡ false)
    go true e ih = (n, omega arith, rw e at h)
    go false e ih = let w = ih e in (w.0, omega arith, w.2)

pub or_false_left : (a b : Bool) → (a || b) ≡ false → a ≡ false
or_false_left true b h = h
or_false_left false b h = refl

-- a loop that tests one number after another: none yet, one more, one that fails, and the end
pub all_none : (f : ℕ → Bool) → all_below 0 f ≡ true
unfolding all_below
all_none f = refl

pub all_more : (i : ℕ) (f : ℕ → Bool) → all_below i f ≡ true → f i ≡ true → all_below (i + 1) f ≡ true
unfolding all_below
all_more i f h t = rw (add-one i, h, t)

pub all_fails : (n i : ℕ) (f : ℕ → Bool) → i < n → f i ≡ false → all_below n f ≡ false
all_fails n i f l h = by_cases (all_below n f) (λ t. absurd (true≢false (rw (all_at n f t i l) at h))) (λ e. e)

pub all_end : (n i : ℕ) (f : ℕ → Bool) → i ≤ n → n ≤ i → all_below i f ≡ true → all_below n f ≡ true
all_end n i f a b h = let e : n ≡ i = omega arith in rw e h

-- rows of n, one after another
pub all_add : (a b : ℕ) (f : ℕ → Bool) → all_below (a + b) f ≡ (all_below a f && all_below b (λ j. f (a + j)))
unfolding all_below
all_add a zero f = rw (add-zero, and_unit)
all_add a (suc b) f = rw (add-suc, all_add a b f, and_assoc)

pub all_grid : (m n : ℕ) (f : ℕ → Bool) → all_below m (λ i. all_below n (λ j. f (i * n + j))) ≡ all_below (m * n) f
unfolding all_below
all_grid zero n f = rw zero-mul
all_grid (suc m) n f = rw (all_grid m n f, suc-mul, all_add)

pub all_same : (n : ℕ) (f g : ℕ → Bool) → ((i : ℕ) → i < n → f i ≡ g i) → all_below n f ≡ all_below n g
unfolding all_below
all_same zero f g h = refl
all_same (suc n) f g h = rw (all_same n f g (λ i l. h i (omega arith)), h n (omega arith))

-- the same for a test that one number passes
pub any_none : (f : ℕ → Bool) → any_below 0 f ≡ false
unfolding any_below
any_none f = refl

pub any_more : (i : ℕ) (f : ℕ → Bool) → any_below i f ≡ false → f i ≡ false → any_below (i + 1) f ≡ false
unfolding any_below
any_more i f h t = rw (add-one i, h, t)

pub any_holds : (n i : ℕ) (f : ℕ → Bool) → i < n → f i ≡ true → any_below n f ≡ true
unfolding any_below
any_holds zero i f l h = absurd (omega arith)
any_holds (suc n) i f l h =
    ⊎_elim (λ (e : i ≡ n). rw (← e, h, or-true)) (λ (b : i < n). rw (any_holds n i f b h)) (eq-or-lt_of_le (le_of_suc-le-suc l))

pub any_fails : (n : ℕ) (f : ℕ → Bool) → ((i : ℕ) → i < n → f i ≡ false) → any_below n f ≡ false
unfolding any_below
any_fails zero f h = refl
any_fails (suc n) f h = rw (any_fails n f (λ i l. h i (omega arith)), h n (omega arith))
