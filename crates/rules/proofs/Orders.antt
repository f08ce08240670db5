-- The group of a board whose orders and generators pass: two roots of 1 of prime order q, and what a pair of their powers fixes.
use Prim.Native.Nat.{ℕ, ◌-◌, ◌*◌, ◌/◌, ◌%◌, ◌^◌, ◌<◌}
use mathlib.Core.Path.{◌≡◌, sym, ap, ◌∙◌}
use mathlib.Core.List.{List}
use mathlib.Core.Bool.{Bool, true, false, cond, and-eq-true_iff}
use native.Mathlib.Nat.{mul_comm, mod-mod, mod-eq_of_lt, zero-mod, div-add-mod, pos_of_ne-zero, zero-mul}
use native.Mathlib.Omega.{arith}
use lib.Dec.{eqb}
use borrow.Author.Tests.{ltb-true, eqb-true, eqb-false, not-true}
use Rattle.numbers.proofs.Residues.{mul_mod_left, pow_mod_lem, pow_mul_mod}
use Rattle.numbers.proofs.RootsOfUnity.{pow_rest, order_pow, cancel_rest, same_exponent}
use Rattle.numbers.proofs.Powers.{zero_pow}
use Rattle.numbers.proofs.Primes.{Prime, prime_of_test}
use Rattle.numbers.proofs.Fermat.{fermat}
use Rattle.rules.specs.Group.{orders, derived, generators}
use Rattle.group.specs.Elements.{Parameters, is_element}
use Rattle.group.specs.Arithmetic.{pow_mod}

-- what refusal 4 tests
pub record Orders (n K p q : ℕ) : Type 0 where
  pub prime_p : Prime p
  pub prime_q : Prime q
  pub divides : (p - 1) % q ≡ 0
  pub over_n : n < q
  pub over_K : K < q

-- what refusal 5 and Fermat's theorem give
pub record Generators (p q g0 g1 : ℕ) : Type 0 where
  pub order0 : g0 ^ q % p ≡ 1
  pub order1 : g1 ^ q % p ≡ 1
  pub apart1 : g1 % p ≡ 1 → ⊥

pub orders_of_test : (n K p q : ℕ) → orders n K p q ≡ true → Orders n K p q
unfolding orders
orders_of_test n K p q h =
    let w = simp and-eq-true_iff at h in
    record {
      prime_p = prime_of_test p w.0.0.0.0.0;
      prime_q = prime_of_test q w.0.0.0.0.1;
      divides = eqb-true ((p - 1) % q) 0 w.0.0.1;
      over_n = ltb-true n q w.0.1;
      over_K = ltb-true K q w.1;
    }

-- a power (p - 1) / q that is not 0 is a root of 1, by Fermat
root_of_power : {p : ℕ} → Prime p → (q t : ℕ) → (p - 1) % q ≡ 0 → (t ^ ((p - 1) / q) % p ≡ 0 → ⊥) → (t ^ ((p - 1) / q) % p) ^ q % p ≡ 1
root_of_power {p} pr q t d ne =
    let c = (p - 1) / q in
    let e : c * q ≡ p - 1 = omega (arith, div-add-mod (p - 1) q, mul_comm c q) in
    let pos : 0 < c = pos_of_ne-zero (λ z. omega (arith, ap (λ (t : ℕ). t * q) z, zero-mul q, pr.large)) in
    let live : t % p ≡ 0 → ⊥ = λ z. ne (cc (pow_mod_lem t c p, z, zero_pow c pos, zero-mod p)) in
    cc (pow_mul_mod t c q p, e, fermat pr t live)

pub generators_of_test : {n K : ℕ} (hash : List ℕ → List ℕ) (label : List ℕ) (counter : ℕ) (g : Parameters) → Orders n K g.p g.q →
    generators hash label counter g ≡ true → Generators g.p g.q g.g0 g.g1
unfolding generators is_element pow_mod derived
generators_of_test hash label counter g o h =
    let w = simp and-eq-true_iff at h in
    let made = eqb-true g.g1 (derived hash label g.p g.q g.g0 counter) w.0.0.0.1 in
    let whole : g.g1 % g.p ≡ g.g1 = rw made (mod-mod _ g.p) in
    record {
      order0 = eqb-true (g.g0 ^ g.q % g.p) 1 w.0.0.0.0.0.1;
      order1 = rw made (root_of_power o.prime_p g.q _ o.divides (λ z. eqb-false g.g1 0 (not-true (eqb g.g1 0) w.0.0.1) (made ∙ z)));
      apart1 = λ e. eqb-false g.g1 1 (not-true (eqb g.g1 1) w.0.1) (sym whole ∙ e);
    }

-- v = 1 and v = 0 are below q
pub bit_below : {n K p q : ℕ} → Orders n K p q → (b : Bool) → cond b 1 0 < q
bit_below o true = o.prime_q.large
bit_below o false = omega (arith, o.prime_q.large)

module _ {n K p q g0 g1 : ℕ} (o : Orders n K p q) (w : Generators p q g0 g1) where
  positive_q : 0 < q
  positive_q = omega (arith, o.prime_q.large)

  -- a pair fixes what it opens to, modulo q
  pub same_opening : (x x' v v' : ℕ) → g0 ^ x * g1 ^ v % p ≡ g0 ^ x' * g1 ^ v' % p → g1 ^ x % p ≡ g1 ^ x' % p → v % q ≡ v' % q
  same_opening x x' v v' b y =
      let e : x % q ≡ x' % q = same_exponent p q g1 w.order1 o.prime_q w.apart1 x x' y in
      let a : g0 ^ x % p ≡ g0 ^ x' % p = pow_rest p q g0 w.order0 x x' e in
      same_exponent p q g1 w.order1 o.prime_q w.apart1 v v'
      (cancel_rest p q (g0 ^ x) (order_pow p q g0 w.order0 x) positive_q (g1 ^ v) (g1 ^ v')
      (cc (b, a, mul_mod_left (g0 ^ x) (g1 ^ v') p, mul_mod_left (g0 ^ x') (g1 ^ v') p)))

  pub same_count : (x x' v v' : ℕ) → v < q → v' < q → g0 ^ x * g1 ^ v % p ≡ g0 ^ x' * g1 ^ v' % p → g1 ^ x % p ≡ g1 ^ x' % p → v ≡ v'
  same_count x x' v v' l l' b y = cc (same_opening x x' v v' b y, mod-eq_of_lt l, mod-eq_of_lt l')

  -- and so, below q, itself
  pub same_pair : (x x' v v' : ℕ) → x < q → x' < q → v < q → v' < q → g0 ^ x * g1 ^ v % p ≡ g0 ^ x' * g1 ^ v' % p → g1 ^ x % p ≡ g1 ^ x' % p → (x ≡ x') × (v ≡ v')
  same_pair x x' v v' a a' l l' b y = (
    cc (same_exponent p q g1 w.order1 o.prime_q w.apart1 x x' y, mod-eq_of_lt a, mod-eq_of_lt a'),
    same_count x x' v v' l l' b y,
  )
