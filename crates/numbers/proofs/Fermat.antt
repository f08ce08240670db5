-- Fermat's little theorem, by the binomial theorem.
use Prim.Native.Nat.{ℕ, zero, suc, ◌+◌, ◌-◌, ◌*◌, ◌%◌, ◌^◌, ◌<◌}
use mathlib.Core.Path.{◌≡◌, refl, ap}
use native.Mathlib.Nat.{pow-zero, pow-suc, pow-succ', zero-mul, add-zero, zero-add, add-mod-mod, mod-add-mod, mod-eq_of_lt, mod_self, zero-mod, mul-mod_right as multiple-mod}
use native.Mathlib.Numerals.{add-one}
use native.Mathlib.Omega.{arith}
use Rattle.numbers.specs.Below.{sum_below}
use Rattle.numbers.proofs.Sums.{sum_last, sum_first, sum_same, sum_add, sum_times, sum_multiples}
use Rattle.numbers.proofs.Residues.{mul_mod_left}
use Rattle.numbers.proofs.Powers.{zero_pow}
use Rattle.numbers.proofs.Primes.{Prime, euclid_other}

unfoldable pub choose : ℕ → ℕ → ℕ
choose n zero = 1
choose zero (suc k) = 0
choose (suc n) (suc k) = choose n k + choose n (suc k)

pub absorb : (n k : ℕ) → suc k * choose (suc n) (suc k) ≡ suc n * choose n k
unfolding choose
absorb zero zero = refl
absorb zero (suc k) = omega arith
absorb (suc n) zero = let h = absorb n zero in omega arith
absorb (suc n) (suc k) =
    let h = absorb n k in
    let h' = absorb n (suc k) in
    omega arith

pub choose_over : (n k : ℕ) → n < k → choose n k ≡ 0
unfolding choose
choose_over n zero l = omega arith
choose_over zero (suc k) l = refl
choose_over (suc n) (suc k) l = omega (arith, choose_over n k (omega arith), choose_over n (suc k) (omega arith))

pub choose_all : (n : ℕ) → choose n n ≡ 1
unfolding choose
choose_all zero = refl
choose_all (suc n) = omega (arith, choose_all n, choose_over n (suc n) (omega arith))

-- the terms of (a + 1) ^ n
abbrev term : (a n k : ℕ) → ℕ
term a n k = choose n k * a ^ k

last_term : (a n : ℕ) → sum_below (suc (suc n)) (term a n) ≡ sum_below (suc n) (term a n)
unfolding sum_below
last_term a n = simp (choose_over n (suc n) (omega arith), zero-mul, add-zero)

pub binomial : (a n : ℕ) → suc a ^ n ≡ sum_below (suc n) (term a n)
unfolding choose
binomial a zero = unfold sum_below in simp pow-zero
binomial a (suc n) =
    let ih = binomial a n in
    let shift : (k : ℕ) → term a (suc n) (suc k) ≡ term a n k * a + term a n (suc k) = λ k. omega (arith, ap (λ (t : ℕ). choose n k * t) (pow-suc a k)) in
    let above = sum_first (suc n) (term a (suc n)) in
    let split = sum_same (suc n) (λ k. term a (suc n) (suc k)) (λ k. term a n k * a + term a n (suc k)) (λ k l. shift k) in
    let parts = sum_add (suc n) (λ k. term a n k * a) (λ k. term a n (suc k)) in
    let factor = sum_times (suc n) a (term a n) in
    let below = sum_first (suc n) (term a n) in
    omega (arith, pow-suc (suc a) n, last_term a n, ap (λ (t : ℕ). t * a) ih)

-- modulo a prime
module _ {p : ℕ} (pr : Prime p) where
  positive : suc (p - 1) ≡ p
  positive = omega (arith, pr.large)

  choose_multiple : (k : ℕ) → suc k < p → choose p (suc k) % p ≡ 0
  choose_multiple k l =
      euclid_other pr (suc k) (choose p (suc k))
      (λ z. omega (arith, mod-eq_of_lt l))
      (cc (rw positive at (absorb (p - 1) k), multiple-mod p (choose (p - 1) k)))

  middle : (a k : ℕ) → suc k < p → term a p (suc k) % p ≡ 0
  middle a k l = cc (mul_mod_left (choose p (suc k)) (a ^ suc k) p, choose_multiple k l, zero-mul (a ^ suc k), zero-mod p)

  pub dream : (a : ℕ) → suc a ^ p % p ≡ (a ^ p + 1) % p
  unfolding choose
  dream a =
      let inner : sum_below (p - 1) (λ k. term a p (suc k)) % p ≡ 0 = sum_multiples p (p - 1) (λ k. term a p (suc k)) (λ k l. middle a k (omega arith)) in
      let first = rw positive at (sum_first (p - 1) (term a p)) in
      let whole : suc a ^ p ≡ a ^ p + 1 + sum_below (p - 1) (λ k. term a p (suc k)) =
      omega (arith, binomial a p, sum_last p (term a p), first, pow-zero a, ap (λ (t : ℕ). t * a ^ p) (choose_all p)) in
      cc (whole, add-mod-mod (a ^ p + 1) (sum_below (p - 1) (λ k. term a p (suc k))) p, add-zero (a ^ p + 1))

  pub fermat_all : (a : ℕ) → a ^ p % p ≡ a % p
  fermat_all zero = ap (λ (t : ℕ). t % p) (zero_pow p (omega (arith, pr.large)))
  fermat_all (suc a) = cc (dream a, mod-add-mod (a ^ p) p 1, fermat_all a, mod-add-mod a p 1, add-one a)

  pub fermat : (a : ℕ) → (a % p ≡ 0 → ⊥) → a ^ (p - 1) % p ≡ 1
  fermat a ne =
      let x = a ^ (p - 1) in
      let power : a * x ≡ a ^ p = cc (pow-succ' a (p - 1), positive) in
      let joined : a * (x + (p - 1)) ≡ a ^ p + a * (p - 1) = omega arith in
      let whole : a + a * (p - 1) ≡ p * a = omega (arith, ap (λ (t : ℕ). a * t) positive) in
      let z : (x + (p - 1)) % p ≡ 0 =
      euclid_other pr a (x + (p - 1)) ne
      (cc (joined, mod-add-mod (a ^ p) p (a * (p - 1)), fermat_all a, mod-add-mod a p (a * (p - 1)), whole, multiple-mod p a)) in
      let over : x + (p - 1) + 1 ≡ x + p = omega (arith, positive) in
      cc (z, over, mod-add-mod (x + (p - 1)) p 1, zero-add 1, mod-eq_of_lt {n = 1} {m = p} pr.large, add-mod-mod x p p, mod_self p, add-zero x)
