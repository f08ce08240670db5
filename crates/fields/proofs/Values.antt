-- What a field's answer tells: the test's outcome, the value and the next place.
use Prim.Native.Nat.{ℕ, ◌+◌}
use mathlib.Core.Path.{◌≡◌, refl, ap}
use mathlib.Core.Bool.{Bool, true, false}
use mathlib.Core.List.{List}
use Rattle.std.specs.Prelude.{Some, None, leb, ltb}
use Rattle.std.specs.Bool.{then_some}
use Rattle.group.specs.declared.Exponent.{Exponent}
use Rattle.rules.specs.Bytes.{number2, number4}
use Rattle.fields.specs.Answers.{exponent_at, count_at}

tested : {A : Type 0} (b : Bool) (x w : A) → then_some b x ≡ Some w → (b ≡ true) × (w ≡ x)
tested true x w h = (refl, cc)
tested false x w h = cc

untested : {A : Type 0} (b : Bool) (x : A) → then_some b x ≡ None → b ≡ false
untested true x h = cc
untested false x h = refl

pub exponent_value : (s : List ℕ) (at q : ℕ) {w : Exponent × ℕ} → exponent_at s at q ≡ Some w → (ltb (number4 s at) q ≡ true) × (w.1 ≡ at + 4) × (w.0.0 ≡ number4 s at)
exponent_value s at q {w} h =
    let t = tested (ltb (number4 s at) q) (record { 0 = number4 s at }, at + 4) w h in
    (t.0, ap (λ (w : Exponent × ℕ). w.1) t.1, ap (λ (w : Exponent × ℕ). w.0.0) t.1)

pub exponent_refused : (s : List ℕ) (at q : ℕ) → exponent_at s at q ≡ None → ltb (number4 s at) q ≡ false
exponent_refused s at q h = untested (ltb (number4 s at) q) _ h

pub count_value : (s : List ℕ) (at most : ℕ) {w : ℕ × ℕ} → count_at s at most ≡ Some w → (leb (number2 s at) most ≡ true) × (w.1 ≡ at + 2) × (w.0 ≡ number2 s at)
count_value s at most {w} h =
    let t = tested (leb (number2 s at) most) (number2 s at, at + 2) w h in
    (t.0, cc, cc)

pub count_refused : (s : List ℕ) (at most : ℕ) → count_at s at most ≡ None → leb (number2 s at) most ≡ false
count_refused s at most h = untested (leb (number2 s at) most) _ h
