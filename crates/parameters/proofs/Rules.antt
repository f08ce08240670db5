-- What the rules on the orders say of the numbers.
use Prim.Native.Nat.{ℕ, ◌≤◌, ◌<◌}
use mathlib.Core.Path.{◌≡◌}
use mathlib.Core.Bool.{true, and-eq-true_iff}
use native.Mathlib.Omega.{arith}
use Rattle.numbers.specs.Primes.{is_prime}
use Rattle.numbers.proofs.Primes.{prime_of_test}
use Rattle.rules.specs.Group.{orders}

pub prime_large : (p : ℕ) → is_prime p ≡ true → 2 ≤ p
prime_large p h = (prime_of_test p h).large

pub orders_positive : (n k p q : ℕ) → orders n k p q ≡ true → (0 < p) × (0 < q)
unfolding orders
orders_positive n k p q h =
    let w = simp and-eq-true_iff at h in
    (omega (arith, prime_large p w.0.0.0.0.0), omega (arith, prime_large q w.0.0.0.0.1))
