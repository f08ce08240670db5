-- "Group and ballots": the rules on p, q, g0 and g1, and the pairs.
use Rattle.std.specs.Prelude.{ℕ, ◌-◌, ◌/◌, ◌%◌, ◌^◌, List, [], ◌∷◌, ◌++◌, Bool, ◌&&◌, not, ltb, eqb}
use Rattle.numbers.specs.Primes.{is_prime}
use Rattle.group.specs.Arithmetic.{mul_mod, pow_mod}
use Rattle.group.specs.Elements.{is_element, Parameters}
use Rattle.rules.specs.Bytes.{bytes4, number8}

-- "p and q are primes, p < 2^31, q divides p−1, q > n and q > K."
unfoldable pub orders : (n K p q : ℕ) → Bool
orders n K p q = is_prime p && is_prime q && ltb p (2 ^ 31) && eqb ((p - 1) % q) 0 && ltb n q && ltb K q

-- "g1 is made so: SHA-256 of label (32 bytes), g0 (4 bytes), counter (1 byte); the first 8 bytes of the digest as a number, modulo p, to the power (p−1)/q."
unfoldable pub derived : (hash : List ℕ → List ℕ) (label : List ℕ) (p q g0 counter : ℕ) → ℕ
derived hash label p q g0 counter = pow_mod p (number8 (hash (label ++ bytes4 g0 ++ (counter ∷ []))) 0 % p) ((p - 1) / q)

-- "g0 is an element other than 1." The shown g1 is the one made, and "must not be 0, 1 or g0."
unfoldable pub generators : (hash : List ℕ → List ℕ) (label : List ℕ) (counter : ℕ) → Parameters → Bool
generators hash label counter g =
    is_element g.p g.q g.g0 && not (eqb g.g0 1) && eqb g.g1 (derived hash label g.p g.q g.g0 counter)
    && not (eqb g.g1 0) && not (eqb g.g1 1) && not (eqb g.g1 g.g0)

-- of the pair (b, Y) of x and v, "b = g0^x × g1^v"; Y is pow_mod p g1 x
abbrev pub paired : Parameters → (x v : ℕ) → ℕ
paired g x v = mul_mod g.p (pow_mod g.p g.g0 x) (pow_mod g.p g.g1 v)
