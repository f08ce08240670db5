-- What each claim says, from the numbers that the code reads and the products that it makes.
use Prim.Native.Nat.{ℕ, suc, ◌-◌, ◌%◌, ◌^◌}
use mathlib.Core.Path.{◌≡◌}
use native.Mathlib.Omega.{arith}
use Rattle.numbers.specs.Below.{prod_below}
use Rattle.numbers.proofs.Residues.{mul_mod_left, mul_mod_right}
use Rattle.group.specs.Arithmetic.{mul_mod, pow_mod, over}
use Rattle.group.specs.Elements.{Parameters}
use Rattle.rules.specs.Proofs.{Statement}
use Rattle.rules.specs.Claims.{entry_claim, line_claim}

pub said : (x x' y y' : ℕ) → x ≡ x' → y ≡ y' → ◌≡◌ {A = Statement} (record { left = x; right = y }) (record { left = x'; right = y' })
said x x' y y' e f = cc

-- times the inverse is over
pub over_inverse : (p q a b inv : ℕ) → inv ≡ pow_mod p b (q - 1) → mul_mod p a inv ≡ over p q a b
unfolding pow_mod over
over_inverse p q a b inv e = cc (mul_mod_right a (b ^ (q - 1)) p)

pub over_rest : (p q x y b inv : ℕ) → x ≡ y % p → inv ≡ pow_mod p b (q - 1) → mul_mod p x inv ≡ over p q y b
unfolding pow_mod over
over_rest p q x y b inv e e' = cc (mul_mod_right x (b ^ (q - 1)) p, mul_mod_left y (b ^ (q - 1)) p)

module _ (g : Parameters) (inv : ℕ) (e : inv ≡ pow_mod g.p g.g1 (g.q - 1)) where
  pub entry_zero : (b y l : ℕ) → l ≡ 0 → ◌≡◌ {A = Statement} (record { left = b; right = y }) (entry_claim g b y l)
  unfolding entry_claim
  entry_zero b y l z = rw z

  pub entry_one : (b y l : ℕ) → (l ≡ 0 → ⊥) → ◌≡◌ {A = Statement} (record { left = mul_mod g.p b inv; right = y }) (entry_claim g b y l)
  unfolding entry_claim
  entry_one b y l z = let m : l ≡ suc (l - 1) = omega arith in rw (m, over_inverse g.p g.q b g.g1 inv e)

  pub line_said_lem : (count x z : ℕ) (b y : ℕ → ℕ) → x ≡ prod_below count b % g.p → z ≡ prod_below count y % g.p →
      ◌≡◌ {A = Statement} (record { left = mul_mod g.p x inv; right = z }) (line_claim g count b y)
  unfolding line_claim
  line_said_lem count x z b y ex ez = said _ _ _ _ (over_rest g.p g.q x (prod_below count b) g.g1 inv ex e) ez
