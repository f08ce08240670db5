-- A product modulo p, one factor at a time, with one factor left out.
use Prim.Native.Nat.{ℕ, ◌+◌, ◌*◌, ◌%◌}
use mathlib.Core.Path.{◌≡◌}
use native.Mathlib.Nat.{mul-one}
use native.Mathlib.Numerals.{add-one}
use native.Mathlib.Omega.{arith}
use borrow.Author.Tests.{eq-eqb, ne_eqb}
use Rattle.numbers.specs.Below.{prod_below}
use Rattle.numbers.proofs.Products.{prod_same}
use Rattle.numbers.proofs.Residues.{mul_mod_left}
use Rattle.rules.specs.Claims.{besides}

module _ (p out k : ℕ) (f : ℕ → ℕ) where
  pub prod_more : (r r' : ℕ) → (k ≡ out → ⊥) → r ≡ prod_below k (besides out f) % p → r' ≡ r * f k % p → r' ≡ prod_below (k + 1) (besides out f) % p
  unfolding prod_below
  prod_more r r' n e e' = rw (add-one k, ne_eqb k out n) (cc (mul_mod_left (prod_below k (besides out f)) (f k) p))

  pub prod_skip : (r : ℕ) → k ≡ out → r ≡ prod_below k (besides out f) % p → r ≡ prod_below (k + 1) (besides out f) % p
  unfolding prod_below
  prod_skip r n e = rw (add-one k, eq-eqb k out n, mul-one) e

-- none is left out
pub prod_all : (n : ℕ) (f : ℕ → ℕ) → prod_below n (besides n f) ≡ prod_below n f
prod_all n f = prod_same n (besides n f) f (λ i l. rw (ne_eqb i n (λ e. omega arith)))
