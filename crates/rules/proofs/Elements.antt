-- The group: what the two tests on it give, and the elements among its numbers.
use Prim.Native.Nat.{ℕ, zero, suc, ◌*◌, ◌-◌, ◌%◌, ◌^◌, ◌<◌}
use native.Mathlib.Omega.{arith}
use mathlib.Core.Path.{◌≡◌, sym, ◌∙◌}
use native.Mathlib.Nat.{mod-mod}
use Rattle.numbers.proofs.Residues.{mul_mod_lem}
use mathlib.Core.Bool.{true}
use Rattle.numbers.specs.Below.{prod_below}
use Rattle.numbers.proofs.RootsOfUnity.{order_unit, order_mul, order_pow, order_mod, root_rest}
use Rattle.group.specs.Arithmetic.{pow_mod, over}
use Rattle.group.specs.Elements.{is_element, Parameters}
use Rattle.group.proofs.Elements.{test_of_element}
use Rattle.numbers.proofs.Elements.{element_of_root}
use Rattle.rules.specs.Group.{paired}

-- the first of a pair with its powers open
pub paired_is : (g : Parameters) (x v : ℕ) → paired g x v ≡ g.g0 ^ x * g.g1 ^ v % g.p
unfolding pow_mod
paired_is g x v = sym (mul_mod_lem (g.g0 ^ x) (g.g1 ^ v) g.p)

pub paired_mod : (g : Parameters) (x v : ℕ) → paired g x v % g.p ≡ g.g0 ^ x * g.g1 ^ v % g.p
paired_mod g x v = mod-mod _ g.p ∙ paired_is g x v

-- what a header or job without refusals 4 and 5 has
pub record Good (g : Parameters) : Type 0 where
  pub large : 1 < g.p
  pub small : g.p < 2147483648
  pub some_q : 0 < g.q
  pub q_below : g.q < g.p
  pub root0 : g.g0 ^ g.q % g.p ≡ 1
  pub root1 : g.g1 ^ g.q % g.p ≡ 1

module _ (g : Parameters) (good : Good g) where
  -- a number whose q-th power is 1 modulo p
  abbrev pub Root : ℕ → Type 0
  Root x = x ^ g.q % g.p ≡ 1

  pub root_one : Root 1
  root_one = order_unit g.p g.q g.g0 good.root0

  pub root_mul : (a b : ℕ) → Root a → Root b → Root (a * b)
  root_mul a b ha hb = order_mul g.p g.q a ha b hb

  pub root_pow : (a e : ℕ) → Root a → Root (a ^ e)
  root_pow a e h = order_pow g.p g.q a h e

  pub root_mod : (a : ℕ) → Root a → Root (a % g.p)
  root_mod a h = order_mod g.p g.q a h

  pub root_over : (a b : ℕ) → Root a → Root b → Root (over g.p g.q a b)
  unfolding over
  root_over a b ha hb = root_mod (a * b ^ (g.q - 1)) (root_mul a (b ^ (g.q - 1)) ha (root_pow b (g.q - 1) hb))

  pub root_prod : (n : ℕ) (f : ℕ → ℕ) → ((i : ℕ) → i < n → Root (f i)) → Root (prod_below n f)
  unfolding prod_below
  root_prod zero f h = root_one
  root_prod (suc n) f h = root_mul (prod_below n f) (f n) (root_prod n f (λ i l. h i (omega arith))) (h n (omega arith))

  pub root_element : (x : ℕ) → Root x → is_element g.p g.q (x % g.p) ≡ true
  root_element x h = test_of_element (element_of_root g.p g.q x good.large good.some_q (root_rest g.p g.q x h))

  pub power_root : (x : ℕ) → Root (pow_mod g.p g.g1 x)
  unfolding pow_mod
  power_root x = root_mod (g.g1 ^ x) (root_pow g.g1 x good.root1)

  pub pair_root : (x v : ℕ) → Root (paired g x v)
  unfolding pow_mod
  pair_root x v =
      root_mod _ (root_mul _ _ (root_mod _ (root_pow g.g0 x good.root0)) (root_mod _ (root_pow g.g1 v good.root1)))

  -- powers of the generators
  pub root_g0 : (x : ℕ) → Root (g.g0 ^ x)
  root_g0 x = root_pow g.g0 x good.root0

  pub root_g1 : (x : ℕ) → Root (g.g1 ^ x)
  root_g1 x = root_pow g.g1 x good.root1
