-- What a job writes is true: the claims of its ballots and shifts, with the witnesses that its proofs use.
use Prim.Native.Nat.{ℕ, ◌+◌, ◌*◌, ◌-◌, ◌%◌, ◌^◌, ◌≤◌}
use native.Mathlib.Nat.{mul-one, one-mul, mul_assoc, mod-mod, mod-eq_of_lt, pow-zero, pow-suc}
use native.Mathlib.Omega.{arith}
use mathlib.Core.Path.{◌≡◌, sym, ◌∙◌}
use lib.Pow.{pow-add}
use Rattle.numbers.specs.Below.{prod_below, sum_below}
use Rattle.numbers.proofs.Products.{prod_same, prod_pow, prod_mul, prod_mod}
use Rattle.group.specs.Elements.{Parameters}
use Rattle.rules.specs.Group.{paired}
use Rattle.group.specs.Arithmetic.{pow_mod, over}
use Rattle.numbers.proofs.Residues.{mul_mod_left, mul_mod_right}
use Rattle.numbers.proofs.RootsOfUnity.{inverse_rest}
use Rattle.rules.proofs.Elements.{Good, power_root, pair_root, paired_is, paired_mod}

-- ---- pairs
module _ (g : Parameters) (good : Good g) where
  -- what times b is a, is a over b
  pub over_of : (a b c : ℕ) → b ^ g.q % g.p ≡ 1 → a % g.p ≡ c * b % g.p → over g.p g.q a b % g.p ≡ c % g.p
  unfolding over
  over_of a b c h e =
      cc (
        mod-mod (a * b ^ (g.q - 1)) g.p,
        mul_mod_left a (b ^ (g.q - 1)) g.p,
        mul_mod_left (c * b) (b ^ (g.q - 1)) g.p,
        mul_assoc c b (b ^ (g.q - 1)),
        mul_mod_right c (b * b ^ (g.q - 1)) g.p,
        inverse_rest g.p g.q b h good.some_q,
        mul-one c,
      )

  pub prod_powers : (n : ℕ) (x : ℕ → ℕ) → prod_below n (λ i. pow_mod g.p g.g1 (x i)) % g.p ≡ g.g1 ^ sum_below n x % g.p
  unfolding pow_mod
  prod_powers n x = prod_mod n g.p (λ i. g.g1 ^ x i) ∙ rw (prod_pow n g.g1 x)

  pub prod_pairs : (n : ℕ) (x v : ℕ → ℕ) → prod_below n (λ i. paired g (x i) (v i)) % g.p ≡ g.g0 ^ sum_below n x * g.g1 ^ sum_below n v % g.p
  prod_pairs n x v =
      rw (prod_same n (λ i. paired g (x i) (v i)) (λ i. g.g0 ^ x i * g.g1 ^ v i % g.p) (λ i _. paired_is g (x i) (v i)))
      (prod_mod n g.p (λ i. g.g0 ^ x i * g.g1 ^ v i)
      ∙ rw (prod_mul n (λ i. g.g0 ^ x i) (λ i. g.g1 ^ v i), prod_pow n g.g0 x, prod_pow n g.g1 v))

  -- a pair that opens to 0, and one that opens to 1 over g1
  pub pair_none : paired g 0 0 ≡ 1
  pair_none = paired_is g 0 0 ∙ rw (pow-zero g.g0, pow-zero g.g1) (mod-eq_of_lt good.large)

  pub pair_zero : (x : ℕ) → paired g x 0 % g.p ≡ g.g0 ^ x % g.p
  pair_zero x = paired_mod g x 0 ∙ rw (pow-zero g.g1, mul-one)

  pub pair_one : (b x : ℕ) → b % g.p ≡ g.g0 ^ x * g.g1 ^ 1 % g.p → over g.p g.q b g.g1 % g.p ≡ g.g0 ^ x % g.p
  pair_one b x e = over_of b g.g1 (g.g0 ^ x) good.root1 (e ∙ cc (pow-suc g.g1 0, pow-zero g.g1, one-mul g.g1))

  -- with a base that is a root of 1
  over_base : (base c x x' : ℕ) → base ^ g.q % g.p ≡ 1 → x ≤ g.q → base ^ x' * c % g.p ≡ base ^ (x' + (g.q - x)) * (base ^ x * c) % g.p
  over_base base c x x' root l =
      let k : x' + (g.q - x) + x ≡ x' + g.q = omega arith in
      cc (
        mul_assoc (base ^ (x' + (g.q - x))) (base ^ x) c,
        pow-add base (x' + (g.q - x)) x,
        k,
        pow-add base x' g.q,
        mul_mod_left (base ^ x' * base ^ g.q) c g.p,
        mul_mod_right (base ^ x') (base ^ g.q) g.p,
        root,
        mul-one (base ^ x'),
        mul_mod_left (base ^ x') c g.p,
      )

  -- a pair over one that opens to the same v
  pub pair_over : (x x' v : ℕ) → x ≤ g.q →
      over g.p g.q (paired g x' v) (paired g x v) % g.p ≡ g.g0 ^ (x' + (g.q - x)) % g.p
  pair_over x x' v l =
      over_of _ _ (g.g0 ^ (x' + (g.q - x))) (pair_root g good x v)
      (paired_mod g x' v ∙ over_base g.g0 (g.g1 ^ v) x x' good.root0 l ∙ rw (paired_is g x v) (sym (mul_mod_right (g.g0 ^ (x' + (g.q - x))) (g.g0 ^ x * g.g1 ^ v) g.p)))

  pub power_over : (x x' : ℕ) → x ≤ g.q → over g.p g.q (pow_mod g.p g.g1 x') (pow_mod g.p g.g1 x) % g.p ≡ g.g1 ^ (x' + (g.q - x)) % g.p
  unfolding pow_mod
  power_over x x' l =
      over_of _ _ (g.g1 ^ (x' + (g.q - x))) (power_root g good x)
      (mod-mod _ g.p ∙ rw (mul-one (g.g1 ^ x'), mul-one (g.g1 ^ x)) at (over_base g.g1 1 x x' good.root1 l) ∙ sym (mul_mod_right (g.g1 ^ (x' + (g.q - x))) (g.g1 ^ x) g.p))
