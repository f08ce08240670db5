-- Laws of products below a bound.
use Prim.Native.Nat.{ℕ, zero, suc, ◌*◌, ◌%◌, ◌^◌, ◌<◌}
use mathlib.Core.Path.{◌≡◌, refl, sym, ap₂}
use native.Mathlib.Nat.{mod-mod, pow-zero}
use native.Mathlib.Omega.{arith}
use lib.Pow.{pow-add}
use Rattle.numbers.specs.Below.{sum_below, prod_below}
use Rattle.numbers.proofs.Powers.{mul_pow, one_pow}
use Rattle.numbers.proofs.Residues.{mul_mod_lem}

pub prod_same : (n : ℕ) (f g : ℕ → ℕ) → ((i : ℕ) → i < n → f i ≡ g i) → prod_below n f ≡ prod_below n g
unfolding prod_below
prod_same zero f g h = refl
prod_same (suc n) f g h = ap₂ ◌*◌ (prod_same n f g (λ i l. h i (omega arith))) (h n (omega arith))

-- a product of powers
pub prod_pow : (n a : ℕ) (f : ℕ → ℕ) → prod_below n (λ i. a ^ f i) ≡ a ^ sum_below n f
unfolding sum_below prod_below
prod_pow zero a f = sym (pow-zero a)
prod_pow (suc n) a f = rw (prod_pow n a f, pow-add)

pub prod_mul : (n : ℕ) (f g : ℕ → ℕ) → prod_below n (λ i. f i * g i) ≡ prod_below n f * prod_below n g
unfolding prod_below
prod_mul zero f g = refl
prod_mul (suc n) f g = rw (prod_mul n f g) (omega arith)

pub prod_mod : (n p : ℕ) (f : ℕ → ℕ) → prod_below n (λ i. f i % p) % p ≡ prod_below n f % p
unfolding prod_below
prod_mod zero p f = refl
prod_mod (suc n) p f = cc (prod_mod n p f, mul_mod_lem (prod_below n (λ i. f i % p)) (f n % p) p, mul_mod_lem (prod_below n f) (f n) p, mod-mod (f n) p)

pub prod_pow_out : (n q : ℕ) (f : ℕ → ℕ) → prod_below n f ^ q ≡ prod_below n (λ i. f i ^ q)
unfolding prod_below
prod_pow_out zero q f = one_pow q
prod_pow_out (suc n) q f = rw (mul_pow, prod_pow_out n q f)
