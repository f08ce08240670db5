-- Laws of sums below a bound.
use Prim.Native.Nat.{ℕ, zero, suc, ◌+◌, ◌*◌, ◌-◌, ◌%◌, ◌≤◌, ◌<◌}
use mathlib.Core.Path.{◌≡◌, refl, sym, ap, ap₂, ◌∙◌}
use mathlib.Core.Bool.{Bool, true, cond}
use mathlib.Core.Logic.{◌↔◌, ⊎_elim}
use native.Mathlib.Nat.{mul-zero, zero-mod, eq-or-lt_of_le, le_of_suc-le-suc, not-suc-le-zero}
use native.Mathlib.Numerals.{add-one}
use native.Mathlib.Omega.{arith}
use lib.Dec.{ltb, eqb}
use borrow.Author.Tests.{eq-eqb, ne_eqb, eqb-true, ltb-true, ltb-false}
use Rattle.numbers.specs.Below.{sum_below}
use Rattle.numbers.proofs.Congruence.{Same, same_refl, same_of, add_same}
use Rattle.numbers.proofs.Tests.{by_cases}

pub sum_last : (m : ℕ) (f : ℕ → ℕ) → sum_below (suc m) f ≡ sum_below m f + f m
unfolding sum_below
sum_last m f = refl

-- a sum as a loop goes: one term more, and one that adds nothing
pub sum_more : (m sum x : ℕ) (f : ℕ → ℕ) → sum ≡ sum_below m f → x ≡ f m → sum + x ≡ sum_below (m + 1) f
unfolding sum_below
sum_more m sum x f h e = rw (add-one, h, e)

pub sum_passed : (m sum : ℕ) (f : ℕ → ℕ) → sum ≡ sum_below m f → f m ≡ 0 → sum ≡ sum_below (m + 1) f
sum_passed m sum f h e = omega (arith, sum_more m sum 0 f h (sym e))

pub sum_first : (m : ℕ) (f : ℕ → ℕ) → sum_below (suc m) f ≡ f 0 + sum_below m (λ k. f (suc k))
unfolding sum_below
sum_first zero f = omega arith
sum_first (suc m) f = let h = sum_first m f in omega arith

pub sum_same : (m : ℕ) (f g : ℕ → ℕ) → ((k : ℕ) → k < m → f k ≡ g k) → sum_below m f ≡ sum_below m g
unfolding sum_below
sum_same zero f g h = refl
sum_same (suc m) f g h = ap₂ ◌+◌ (sum_same m f g (λ k l. h k (omega arith))) (h m (omega arith))

pub sum_add : (m : ℕ) (f g : ℕ → ℕ) → sum_below m (λ k. f k + g k) ≡ sum_below m f + sum_below m g
unfolding sum_below
sum_add zero f g = refl
sum_add (suc m) f g = let h = sum_add m f g in omega arith

pub sum_times : (m c : ℕ) (f : ℕ → ℕ) → sum_below m (λ k. f k * c) ≡ sum_below m f * c
unfolding sum_below
sum_times zero c f = omega arith
sum_times (suc m) c f = let h = sum_times m c f in omega arith

pub sum_bound : (m c : ℕ) (f : ℕ → ℕ) → ((k : ℕ) → k < m → f k ≤ c) → sum_below m f ≤ m * c
unfolding sum_below
sum_bound zero c f h = omega arith
sum_bound (suc m) c f h = omega (arith, sum_bound m c f (λ k l. h k (omega arith)), h m (omega arith))

-- terms that are no larger
pub sum_mono : (m : ℕ) (f g : ℕ → ℕ) → ((k : ℕ) → k < m → f k ≤ g k) → sum_below m f ≤ sum_below m g
unfolding sum_below
sum_mono zero f g h = omega arith
sum_mono (suc m) f g h = omega (arith, sum_mono m f g (λ k l. h k (omega arith)), h m (omega arith))

pub sum_constant : (m c : ℕ) → sum_below m (λ k. c) ≡ m * c
unfolding sum_below
sum_constant zero c = omega arith
sum_constant (suc m) c = let h = sum_constant m c in omega arith

pub sum_zero : (n : ℕ) → sum_below n (λ _. 0) ≡ 0
sum_zero n = sum_constant n 0 ∙ mul-zero n

-- of the terms that a test picks, all the same
pub sum_where : (m c : ℕ) (p : ℕ → Bool) → sum_below m (λ k. cond (p k) c 0) ≡ sum_below m (λ k. cond (p k) 1 0) * c
unfolding sum_below
sum_where zero c p = omega arith
sum_where (suc m) c p = let h = sum_where m c p in by_cases (p m) (λ e. rw e (omega arith)) (λ e. rw e (omega arith))

-- a test picks some number below the bound just where it is passed by one
pub some_picked : (m : ℕ) (p : ℕ → Bool) → (0 < sum_below m (λ k. cond (p k) 1 0)) ↔ ((k : ℕ) × (k < m) × (p k ≡ true))
unfolding sum_below
some_picked zero p = (λ l. absurd (not-suc-le-zero l), λ w. absurd (not-suc-le-zero w.1))
some_picked (suc m) p = (
  λ l. by_cases (p m) (λ e. (m, omega arith, e)) (λ e. let w = (some_picked m p).0 (omega (arith, rw e at l)) in (w.0, omega (arith, w.1), w.2)),
  λ w.
      ⊎_elim
      (λ (e : w.0 ≡ m). let here : p m ≡ true = rw e at w.2 in rw here (omega arith))
      (λ (b : w.0 < m). omega (arith, (some_picked m p).1 (w.0, b, w.2)))
      (eq-or-lt_of_le (le_of_suc-le-suc w.1)),
)

-- terms ahead of the bound, with the next
pub sum_within : (m k : ℕ) (f : ℕ → ℕ) → k < m → sum_below k f + f k ≤ sum_below m f
unfolding sum_below
sum_within zero k f l = absurd (not-suc-le-zero l)
sum_within (suc m) k f l =
    ⊎_elim (λ (e : k ≡ m). rw e (omega arith)) (λ (b : k < m). omega (arith, sum_within m k f b)) (eq-or-lt_of_le (le_of_suc-le-suc l))

pub sum_swap : (n m : ℕ) (f : ℕ → ℕ → ℕ) → sum_below n (λ i. sum_below m (f i)) ≡ sum_below m (λ k. sum_below n (λ i. f i k))
unfolding sum_below
sum_swap zero m f = omega (arith, sum_constant m 0)
sum_swap (suc n) m f = ap (λ (t : ℕ). t + sum_below m (f n)) (sum_swap n m f) ∙ sym (sum_add m (λ k. sum_below n (λ i. f i k)) (f n))

-- terms that leave the same rests add up to the same rest
pub sum_rests : {q : ℕ} (n : ℕ) (f g : ℕ → ℕ) → ((i : ℕ) → i < n → Same q (f i) (g i)) → Same q (sum_below n f) (sum_below n g)
unfolding sum_below
sum_rests zero f g h = same_refl 0
sum_rests (suc n) f g h = add_same (sum_rests n f g (λ i l. h i (omega arith))) (h n (omega arith))

-- multiples of p add up to a multiple
pub sum_multiples : (p m : ℕ) (f : ℕ → ℕ) → ((k : ℕ) → k < m → f k % p ≡ 0) → sum_below m f % p ≡ 0
sum_multiples p m f h =
    (sum_rests m f (λ _. 0) (λ k l. same_of (h k l))).same ∙ ap (λ (t : ℕ). t % p) (sum_zero m) ∙ zero-mod p

-- the term at t taken out
pub sum_one_out : (n t v : ℕ) (f : ℕ → ℕ) → t < n → sum_below n (λ i. cond (eqb i t) v (f i)) ≡ v + sum_below n (λ i. cond (eqb i t) 0 (f i))
unfolding sum_below
sum_one_out zero t v f l = absurd (not-suc-le-zero l)
sum_one_out (suc n) t v f l =
    ⊎_elim
    (λ (e : t ≡ n).
    let d : (w i : ℕ) → i < n → cond (eqb i t) w (f i) ≡ f i = λ w i h. rw (ne_eqb i t (λ e'. omega arith)) in
    rw (sum_same n (λ i. cond (eqb i t) v (f i)) f (d v), sum_same n (λ i. cond (eqb i t) 0 (f i)) f (d 0), eq-eqb n t (sym e)) (omega arith))
    (λ (h : t < n). rw (sum_one_out n t v f h, ne_eqb n t (λ e'. omega arith)) (omega arith))
    (eq-or-lt_of_le (le_of_suc-le-suc l))

-- sums of n terms that come to n
pub sum_over : (n : ℕ) (f : ℕ → ℕ) → ((i : ℕ) → i < n → 1 ≤ f i) → n ≤ sum_below n f
unfolding sum_below
sum_over zero f h = omega arith
sum_over (suc n) f h = omega (arith, sum_over n f (λ i l. h i (omega arith)), h n (omega arith))

pub all_one_over : (n : ℕ) (f : ℕ → ℕ) → ((i : ℕ) → i < n → 1 ≤ f i) → sum_below n f ≤ n → (i : ℕ) → i < n → f i ≡ 1
unfolding sum_below
all_one_over zero f h b i l = absurd (not-suc-le-zero l)
all_one_over (suc n) f h b i l =
    let low = sum_over n f (λ i l. h i (omega arith)) in
    let last = h n (omega arith) in
    ⊎_elim (λ (e : i ≡ n). rw e (omega arith)) (λ (c : i < n). all_one_over n f (λ i l. h i (omega arith)) (omega arith) i c) (eq-or-lt_of_le (le_of_suc-le-suc l))

pub sum_under : (n : ℕ) (f : ℕ → ℕ) → ((i : ℕ) → i < n → f i ≤ 1) → sum_below n f ≤ n
sum_under n f h = omega (arith, sum_bound n 1 f h)

-- a test picks no more numbers below the bound than there are
pub few_picked : (m : ℕ) (p : ℕ → Bool) → sum_below m (λ k. cond (p k) 1 0) ≤ m
few_picked m p = sum_under m (λ k. cond (p k) 1 0) (λ k _. by_cases (p k) (λ e. rw e (omega arith)) (λ e. rw e (omega arith)))

pub all_one_under : (n : ℕ) (f : ℕ → ℕ) → ((i : ℕ) → i < n → f i ≤ 1) → n ≤ sum_below n f → (i : ℕ) → i < n → f i ≡ 1
unfolding sum_below
all_one_under zero f h b i l = absurd (not-suc-le-zero l)
all_one_under (suc n) f h b i l =
    let high = sum_under n f (λ i l. h i (omega arith)) in
    let last = h n (omega arith) in
    ⊎_elim (λ (e : i ≡ n). rw e (omega arith)) (λ (c : i < n). all_one_under n f (λ i l. h i (omega arith)) (omega arith) i c) (eq-or-lt_of_le (le_of_suc-le-suc l))

-- a test that no two numbers below the bound pass picks one at most
pub one_picked : (m : ℕ) (p : ℕ → Bool) → ((i j : ℕ) → i < j → j < m → p i ≡ true → p j ≡ true → ⊥) → sum_below m (λ k. cond (p k) 1 0) ≤ 1
unfolding sum_below
one_picked zero p h = omega arith
one_picked (suc m) p h =
    let rest = one_picked m p (λ i j a b. h i j a (omega arith)) in
    by_cases (p m)
    (λ e. rw e (by_cases (ltb 0 (sum_below m (λ k. cond (p k) 1 0)))
    (λ l. let w = (some_picked m p).0 (ltb-true _ _ l) in absurd (h w.0 m w.1 (omega arith) w.2 e))
    (λ l. omega (arith, ltb-false 0 (sum_below m (λ k. cond (p k) 1 0)) l))))
    (λ e. rw e (omega arith))

-- the pigeonhole principle: different numbers from 1 to Q are Q at most
pub different_few : (m Q : ℕ) (f : ℕ → ℕ) → ((i : ℕ) → i < m → (1 ≤ f i) × (f i ≤ Q)) → ((i j : ℕ) → i < j → j < m → f i ≡ f j → ⊥) → m ≤ Q
different_few m Q f within apart =
    let is : ℕ → ℕ → Bool = λ i v. eqb (f i) (suc v) in
    let each : (i : ℕ) → i < m → 1 ≤ sum_below Q (λ v. cond (is i v) 1 0) =
    λ i l. (some_picked Q (is i)).1 (f i - 1, omega (arith, within i l), eq-eqb (f i) (suc (f i - 1)) (omega (arith, within i l))) in
    let once : (v : ℕ) → v < Q → sum_below m (λ i. cond (is i v) 1 0) ≤ 1 = λ v _. one_picked m (λ i. is i v) (λ i j a b e e'. apart i j a b (eqb-true _ _ e ∙ sym (eqb-true _ _ e'))) in
    omega (arith, sum_over m (λ i. sum_below Q (λ v. cond (is i v) 1 0)) each, sum_swap m Q (λ i v. cond (is i v) 1 0), sum_under Q (λ v. sum_below m (λ i. cond (is i v) 1 0)) once)
