-- Special soundness of one-of-many proofs (Cramer, Damgård and Schoenmakers 1994): where no branch is true, the commitments allow one challenge.
use Prim.Native.Nat.{ℕ, ◌*◌, ◌-◌, ◌%◌, ◌^◌, ◌<◌}
use mathlib.Core.Path.{◌≡◌, sym, ◌∙◌}
use native.Mathlib.Nat.{mul-mul-mul_comm, one-mul}
use native.Mathlib.Omega.{arith}
use Rattle.numbers.specs.Below.{sum_below}
use Rattle.numbers.proofs.Sums.{sum_rests}
use Rattle.numbers.proofs.Congruence.{Same, same_refl, same_trans, same_eq, same_by, rest_of, mul_same, pow_same}
use Rattle.numbers.proofs.Primes.{Prime, inverse}
use Rattle.numbers.proofs.RootsOfUnity.{minus, minus_zero, pow_minus, root_inverse, undo}
use Rattle.numbers.proofs.Powers.{pow_mul, mul_pow}
use Rattle.numbers.proofs.Elements.{Element, to_root}

-- the statement (a, b) is true
pub record True (p g0 g1 a b : ℕ) : Type 0 where
  pub w : ℕ
  pub left : a ≡ g0 ^ w % p
  pub right : b ≡ g1 ^ w % p

-- a statement and its commitments are elements
pub record Fields (p q a b t1 t2 : ℕ) : Type 0 where
  pub left : Element p q a
  pub right : Element p q b
  pub first : Element p q t1
  pub second : Element p q t2

-- the response r meets the challenge e under the commitments t1 and t2
pub record Meets (p g0 g1 a b t1 t2 e r : ℕ) : Type 0 where
  pub left : g0 ^ r % p ≡ t1 * a ^ e % p
  pub right : g1 ^ r % p ≡ t2 * b ^ e % p

module _ {p q : ℕ} (prime : Prime q) where
  -- one base: a is the power of g by the quotient of the differences
  extract : (g a t e e' r r' u : ℕ) → Element p q a → Element p q t → Same q (minus q e e' * u) 1
      → g ^ r % p ≡ t * a ^ e % p → g ^ r' % p ≡ t * a ^ e' % p → a ≡ g ^ (minus q r r' * u) % p
  extract g a t e e' r r' u ha ht hu h h' =
      sym (rest_of ha.below (rw (pow_mul g (minus q r r') u, pow_minus q g r r')
      (same_trans (pow_same u (same_trans quotient gone)) (undo a (minus q e e') u (to_root ha) hu))))
    where
      quotient : Same p (g ^ r * (g ^ r') ^ (q - 1)) (t * a ^ e * (t * a ^ e') ^ (q - 1))
      quotient = mul_same (record { same = h }) (pow_same (q - 1) (record { same = h' }))

      gone : Same p (t * a ^ e * (t * a ^ e') ^ (q - 1)) (a ^ minus q e e')
      gone =
          rw (mul_pow t (a ^ e') (q - 1), mul-mul-mul_comm t (a ^ e) (t ^ (q - 1)) ((a ^ e') ^ (q - 1)), pow_minus q a e e')
          (same_trans (mul_same (root_inverse (omega (arith, prime.large)) (to_root ht)) (same_refl _)) (same_eq (one-mul _)))

  -- two challenges that differ and are met make the statement true
  pub special : {g0 g1 a b t1 t2 e e' r r' : ℕ} → Fields p q a b t1 t2
      → ¬ Same q e e' → Meets p g0 g1 a b t1 t2 e r → Meets p g0 g1 a b t1 t2 e' r' → True p g0 g1 a b
  special {g0} {g1} {a} {b} {t1} {t2} {e} {e'} {r} {r'} f n h h' =
      let (u, hu) = inverse prime (minus q e e') (λ z. n (minus_zero q e e' (omega (arith, prime.large)) z)) in
      record {
        w = minus q r r' * u;
        left = extract g0 a t1 e e' r r' u f.left f.first hu h.left h'.left;
        right = extract g1 b t2 e e' r r' u f.right f.second hu h.right h'.right;
      }

-- branches 0, .., branches - 1, the l-th of which has statements l
module _ (p q g0 g1 branches : ℕ) (statements : ℕ → ℕ) (a b t1 t2 : ℕ → ℕ → ℕ) where
  abbrev pub TrueBranch : ℕ → Type 0
  TrueBranch l = (i : ℕ) → i < statements l → True p g0 g1 (a l i) (b l i)

  -- the challenges e, which add up to c, are met by the responses r
  pub record Accepts (c : ℕ) (e : ℕ → ℕ) (r : ℕ → ℕ → ℕ) : Type 0 where
    pub adds : sum_below branches e % q ≡ c
    pub meets : (l i : ℕ) → l < branches → i < statements l → Meets p g0 g1 (a l i) (b l i) (t1 l i) (t2 l i) (e l) (r l i)

  -- two choices that are accepted have one challenge
  pub sound : Prime q → ((l i : ℕ) → l < branches → i < statements l → Fields p q (a l i) (b l i) (t1 l i) (t2 l i))
      → ((l : ℕ) → l < branches → ¬ TrueBranch l)
      → {c c' : ℕ} {e e' : ℕ → ℕ} {r r' : ℕ → ℕ → ℕ} → Accepts c e r → Accepts c' e' r' → c ≡ c'
  sound prime fields none {c} {c'} {e} {e'} h h' = sym h.adds ∙ (sum_rests branches e e' each).same ∙ h'.adds
    where
      each : (l : ℕ) → l < branches → Same q (e l) (e' l)
      each l hl = same_by (λ n. none l hl (λ i hi. special prime (fields l i hl hi) n (h.meets l i hl hi) (h'.meets l i hl hi)))
