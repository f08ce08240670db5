-- Root counting (Lagrange): a monic polynomial has at most as many roots modulo a prime as its degree.
use Prim.Native.Nat.{ℕ, zero, suc, ◌+◌, ◌*◌, ◌-◌, ◌^◌, ◌≤◌, ◌<◌, zero-le, suc-le-suc}
use mathlib.Core.Path.{◌≡◌, refl, sym, ap}
use mathlib.Core.Logic.{◌⊎◌, inl, inr}
use mathlib.Core.List.{List, [], ◌∷◌}
use native.Mathlib.Nat.{mod_self, pow-zero, pow-succ', ne_of_lt, lt_irrefl}
use native.Mathlib.Omega.{arith}
use Rattle.numbers.proofs.Search.{Some, find, None}
use lib.ListN.{length, replicate, length-replicate}
use Rattle.numbers.proofs.Congruence.{Same, same_refl, same_sym, same_trans, same_eq, same_of, same_by, same_dec, same_below, one_not_zero, add_same, cancel}
use Rattle.numbers.proofs.Primes.{Prime, inverse}
use Rattle.numbers.proofs.RootsOfUnity.{Root, order, root_pow}

-- c 0 + c 1 * x + .. + x ^ d, for the list of c 0, .., c (d - 1)
unfoldable pub eval : List ℕ → ℕ → ℕ
eval [] x = 1
eval (c ∷ cs) x = c + x * eval cs x

-- (c + x * cs) / (x - r) but for the rest
unfoldable pub quotient : ℕ → List ℕ → List ℕ
quotient r [] = []
quotient r (c ∷ cs) = eval (c ∷ cs) r ∷ quotient r cs

pub length_quotient : (r : ℕ) (cs : List ℕ) → length (quotient r cs) ≡ length cs
unfolding quotient
length_quotient r [] = refl
length_quotient r (c ∷ cs) = ap suc (length_quotient r cs)

pub divide : (r x c : ℕ) (cs : List ℕ)
    → eval (c ∷ cs) x + r * eval (quotient r cs) x ≡ eval (c ∷ cs) r + x * eval (quotient r cs) x
unfolding eval quotient
divide r x c [] = omega arith
divide r x c (d ∷ cs) = omega (arith, ap (λ z. x * z) (divide r x d cs))

module _ {p : ℕ} (prime : Prime p) where
  -- a second root is one of the quotient by the first
  pub other : (r x c : ℕ) (cs : List ℕ) → Same p (eval (c ∷ cs) r) 0 → Same p (eval (c ∷ cs) x) 0 → ¬ Same p r x
      → Same p (eval (quotient r cs) x) 0
  other r x c cs hr hx n = same_by (λ z. n (cancel g _ r x (inverse prime g z).1 balance))
    where
      g : ℕ
      g = eval (quotient r cs) x

      balance : Same p (g * r) (g * x)
      balance =
          same_trans (same_sym (same_trans (add_same hx (same_refl (r * g))) (same_eq (omega arith))))
          (same_trans (same_eq (divide r x c cs)) (same_trans (add_same hr (same_refl (x * g))) (same_eq (omega arith))))

  -- f 0, .., f (n - 1), all different, are roots
  pub roots : (n : ℕ) (cs : List ℕ) (f : ℕ → ℕ) → ((i j : ℕ) → i < n → j < n → Same p (f i) (f j) → i ≡ j)
      → ((i : ℕ) → i < n → Same p (eval cs (f i)) 0) → n ≤ length cs
  unfolding eval
  roots zero cs f apart all = zero-le
  roots (suc n) [] f apart all = absurd (one_not_zero prime.large (all n (omega arith)))
  roots (suc n) (c ∷ cs) f apart all =
      suc-le-suc (rw (length_quotient (f n) cs) at (roots n (quotient (f n) cs) f
      (λ i j hi hj. apart i j (omega arith) (omega arith))
      (λ i hi. other (f n) (f i) c cs (all n (omega arith)) (all i (omega arith))
      (λ s. ne_of_lt hi (sym (apart n i (omega arith) (omega arith) s))))))

-- x ^ (k + 1) - 1 modulo p
abbrev pub unity : (p k : ℕ) → List ℕ
unity p k = (p - 1) ∷ replicate k 0

eval_power : (k x : ℕ) → eval (replicate k 0) x ≡ x ^ k
unfolding eval
eval_power zero x = sym (pow-zero x)
eval_power (suc k) x = rw (pow-succ' x k, eval_power k x) (omega arith)

module _ {p : ℕ} (prime : Prime p) where
  root_unity : (k x : ℕ) → Root p (suc k) x → Same p (eval (unity p k) x) 0
  unfolding eval
  root_unity k x r =
      rw (eval_power k x, ← pow-succ' x k) (same_trans (add_same (same_refl (p - 1)) r.root)
      (same_trans (same_eq (omega (arith, prime.large))) (same_of (mod_self p))))

  -- the powers of a root are all the roots
  pub powers : (q g x : ℕ) → Prime q → Root p q g → ¬ Same p g 1 → Root p q x → Some q (λ k. Same p (g ^ k) x)
  powers zero g x q_prime hg n hx = absurd (omega (arith, q_prime.large))
  powers (suc k) g x q_prime hg n hx = by (find (suc k) (λ i. same_dec (g ^ i) x))
    where
      Is : ℕ → Type 0
      Is i = Same p (g ^ i) x

      by : Some (suc k) Is ⊎ None (suc k) Is → Some (suc k) Is
      by (inl h) = h
      by (inr none) = absurd (lt_irrefl k (simp (length_quotient, length-replicate) at too_many))
        where
          too_many : suc k ≤ length (quotient x (replicate k 0))
          too_many = roots prime (suc k) (quotient x (replicate k 0)) (λ i. g ^ i)
              (λ i j hi hj s. same_below hi hj (order g i j q_prime hg n s))
              (λ i hi. other prime x (g ^ i) (p - 1) (replicate k 0) (root_unity k x hx) (root_unity k (g ^ i) (root_pow i hg))
              (λ s. none i hi (same_sym s)))
