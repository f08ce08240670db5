-- The group's elements, and a group with its two generators.
use Rattle.std.specs.Prelude.{ℕ, Bool, ◌&&◌, ◌==◌, nat_le, nat_lt}
use Rattle.group.specs.Arithmetic.{pow_mod}
use Rattle.group.specs.declared.Group as declared

-- "Group elements are numbers from 1 to p−1 whose q-th power is 1 modulo p."
unfoldable pub is_element : (p q x : ℕ) → Bool
is_element p q x = nat_le 1 x && nat_lt x p && pow_mod p x q == 1

-- the moduli and the generators, as numbers
pub record Parameters : Type 0 where
  pub p : ℕ
  pub q : ℕ
  pub g0 : ℕ
  pub g1 : ℕ

-- those of the code's struct
abbrev pub parameters_of : declared.Group → Parameters
parameters_of g = record { p = g.p; q = g.q; g0 = g.g0.0; g1 = g.g1.0 }
