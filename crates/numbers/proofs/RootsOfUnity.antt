-- Powers of the q-th roots of 1 modulo p: their exponents count modulo q, and for a prime q they are told apart by them.
use Prim.Native.Nat.{ℕ, zero, suc, ◌+◌, ◌*◌, ◌-◌, ◌/◌, ◌%◌, ◌^◌, ◌≤◌, ◌<◌}
use mathlib.Core.Path.{◌≡◌, sym, ap, ◌∙◌}
use native.Mathlib.Nat.{mul-one, mul_comm, mul_left_comm, mod-mod, pow-succ'}
use native.Mathlib.Numerals.{sub-one}
use native.Mathlib.Omega.{arith}
use lib.Pow.{pow-add}
use Rattle.numbers.proofs.Congruence.{Same, same_refl, same_sym, same_trans, same_eq, same_of, same_by, mod_same, multiples, from_multiples, add_same, mul_same, pow_same, cancel}
use Rattle.numbers.proofs.Powers.{one_pow, pow_one, pow_mul, mul_pow}
use Rattle.numbers.proofs.Primes.{Prime, inverse}

-- a - b modulo q
abbrev pub minus : (q a b : ℕ) → ℕ
minus q a b = a + b * (q - 1)

pub minus_zero : (q a b : ℕ) → 1 ≤ q → Same q (minus q a b) 0 → Same q a b
minus_zero zero a b l h = elim l [ ]
minus_zero (suc n) a b l h =
    same_trans (from_multiples b 0 (omega arith)) (same_trans (add_same (rw sub-one at h) (same_refl b)) (same_eq (omega arith)))

pub pow_minus : (q x a b : ℕ) → x ^ minus q a b ≡ x ^ a * (x ^ b) ^ (q - 1)
pow_minus q x a b = rw (pow-add x a (b * (q - 1)), pow_mul x b (q - 1))

-- a q-th root of 1 modulo p
pub record Root (p q x : ℕ) : Type 0 where
  pub root : Same p (x ^ q) 1

module _ {p q : ℕ} where
  pub root_pow : {x : ℕ} (k : ℕ) → Root p q x → Root p q (x ^ k)
  root_pow {x} k r =
      record { root = rw (← pow_mul x k q, mul_comm k q, pow_mul x q k) (same_trans (pow_same k r.root) (same_eq (one_pow k))) }

  pub root_mul : {x y : ℕ} → Root p q x → Root p q y → Root p q (x * y)
  root_mul {x} {y} r s = record { root = rw (mul_pow x y q) (mul_same r.root s.root) }

  around : {x : ℕ} → Root p q x → (a k : ℕ) → Same p (x ^ (a + k * q)) (x ^ a)
  around {x} r a k =
      rw (pow-add x a (k * q), pow_mul x k q) (same_trans (mul_same (same_refl (x ^ a)) (root_pow k r).root) (same_eq (mul-one _)))

  -- an exponent counts modulo q
  pub exponents : {x a b : ℕ} → Root p q x → Same q a b → Same p (x ^ a) (x ^ b)
  exponents {x} {a} {b} r h = same_trans (same_sym (around r a (b / q))) (rw (multiples h) (around r b (a / q)))

  -- x ^ (q - 1) is the inverse of x
  pub root_inverse : {x : ℕ} → 1 ≤ q → Root p q x → Same p (x * x ^ (q - 1)) 1
  root_inverse {x} l r = same_trans (same_eq (sym (pow-succ' x (q - 1)) ∙ ap (λ k. x ^ k) (omega arith))) r.root

  pub root_cancel : (x a b : ℕ) → 1 ≤ q → Root p q x → Same p (x * a) (x * b) → Same p a b
  root_cancel x a b l r h = cancel x (x ^ (q - 1)) a b (root_inverse l r) h

  -- y is b over x
  pub root_over : (x y b : ℕ) → 1 ≤ q → Root p q x → Same p y (b * x ^ (q - 1)) → Same p (x * y) b
  root_over x y b l r h =
      same_trans (mul_same (same_refl x) h)
      (same_trans (same_eq (mul_left_comm x b _)) (same_trans (mul_same (same_refl b) (root_inverse l r)) (same_eq (mul-one b))))

  -- the exponent d is undone by its inverse e
  pub undo : (x d e : ℕ) → Root p q x → Same q (d * e) 1 → Same p ((x ^ d) ^ e) x
  undo x d e r u = rw (← pow_mul x d e) (same_trans (exponents r u) (same_eq (pow_one x)))

  -- if q is prime and g is not 1, then g ^ a tells a modulo q
  pub order : (g a b : ℕ) → Prime q → Root p q g → ¬ Same p g 1 → Same p (g ^ a) (g ^ b) → Same q a b
  order g a b prime r n h =
      minus_zero q a b l (same_by (λ z. n (same_trans (same_sym (undo g d _ r (inverse prime d z).1))
      (same_trans (pow_same _ one) (same_eq (one_pow _))))))
    where
      l : 1 ≤ q
      l = omega (arith, prime.large)

      d : ℕ
      d = minus q a b

      one : Same p (g ^ d) 1
      one = rw (pow_minus q g a b) (same_trans (mul_same h (same_refl _)) (root_inverse l (root_pow b r)))

-- the same in rests
module _ (p q x : ℕ) (turns : x ^ q % p ≡ 1) where
  pub root_rest : Root p q x
  root_rest = record { root = same_of turns }

  -- p is not 1
  one_rest : 1 % p ≡ 1
  one_rest = rw turns at (mod-mod (x ^ q) p)

  one_of : {a : ℕ} → Same p a 1 → a % p ≡ 1
  one_of s = s.same ∙ one_rest

  -- a power of a root of 1 is one
  pub order_pow : (e : ℕ) → (x ^ e) ^ q % p ≡ 1
  order_pow e = one_of (root_pow e root_rest).root

  pub order_unit : 1 ^ q % p ≡ 1
  order_unit = rw (one_pow q) one_rest

  pub order_mul : (y : ℕ) → y ^ q % p ≡ 1 → (x * y) ^ q % p ≡ 1
  order_mul y h = one_of (root_mul root_rest (record { root = same_of h })).root

  pub order_mod : (x % p) ^ q % p ≡ 1
  order_mod = (pow_same q (mod_same x)).same ∙ turns

  pub pow_rest : (a b : ℕ) → a % q ≡ b % q → x ^ a % p ≡ x ^ b % p
  pow_rest a b e = (exponents {a = a} {b = b} root_rest (record { same = e })).same

  -- an exponent counts modulo q
  pub pow_order : (e : ℕ) → x ^ e % p ≡ x ^ (e % q) % p
  pow_order e = pow_rest e (e % q) (sym (mod-mod e q))

  pub inverse_rest : 0 < q → x * x ^ (q - 1) % p ≡ 1
  inverse_rest l = one_of (root_inverse l root_rest)

  pub cancel_rest : 1 ≤ q → (a b : ℕ) → x * a % p ≡ x * b % p → a % p ≡ b % p
  cancel_rest l a b e = (root_cancel x a b l root_rest (record { same = e })).same

  -- for a prime q the powers repeat with q, and not before
  pub same_exponent : Prime q → (x % p ≡ 1 → ⊥) → (a b : ℕ) → x ^ a % p ≡ x ^ b % p → a % q ≡ b % q
  same_exponent prime n a b e = (order x a b prime root_rest (λ s. n (one_of s)) (record { same = e })).same
