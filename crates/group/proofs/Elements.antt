-- What the test of an element says.
use Rattle.std.proofs.Common.{◌≡◌, ℕ, ◌%◌, ◌^◌, true, ltb-true, lt-ltb, eq-eqb, eqb-true, le-leb, leb-true}
use mathlib.Core.Bool.{and-eq-true_iff}
use Rattle.numbers.proofs.Elements.{Element}
use Rattle.group.specs.Arithmetic.{pow_mod}
use Rattle.group.specs.Elements.{is_element}

pub element_of_test : (p q x : ℕ) → is_element p q x ≡ true → Element p q x
unfolding is_element pow_mod
element_of_test p q x h =
    let w = simp and-eq-true_iff at h in
    record { low = leb-true 1 x w.0.0; below = ltb-true x p w.0.1; turns = eqb-true (x ^ q % p) 1 w.1 }

pub test_of_element : {p q x : ℕ} → Element p q x → is_element p q x ≡ true
unfolding is_element pow_mod
test_of_element {p} {q} {x} m = simp (le-leb 1 x m.low, lt-ltb x p m.below, eq-eqb (x ^ q % p) 1 m.turns)
