-- The pairs of a matrix are few.
use Prim.Native.Nat.{ℕ, ◌*◌, ◌≤◌}
use native.Mathlib.Nat.{mul-le-mul_right}
use native.Mathlib.Omega.{arith}

pub few_pairs : (rows n : ℕ) → rows ≤ 8 → n ≤ 8 → rows * n ≤ 64
few_pairs rows n h k = let u : rows * n ≤ 8 * n = mul-le-mul_right n h in omega arith

pub cells : (n : ℕ) → n ≤ 8 → n * n ≤ 64
cells n h = few_pairs n n h h
