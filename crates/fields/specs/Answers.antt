-- A field's answer: its value and the place after it, or nothing where its test fails.
use Rattle.std.specs.Prelude.{ℕ, ◌+◌, List, Option, leb, ltb}
use Rattle.std.specs.Bool.{then_some}
use Rattle.group.specs.Elements.{is_element}
use Rattle.group.specs.declared.Element.{Element}
use Rattle.group.specs.declared.Exponent.{Exponent}
use Rattle.rules.specs.Bytes.{number2, number4}

-- an element of the group at a place
abbrev pub element_at : (s : List ℕ) (at p q : ℕ) → Option (Element × ℕ)
element_at s at p q = then_some (is_element p q (number4 s at)) (record { 0 = number4 s at }, at + 4)

-- a number below q at a place
abbrev pub exponent_at : (s : List ℕ) (at q : ℕ) → Option (Exponent × ℕ)
exponent_at s at q = then_some (ltb (number4 s at) q) (record { 0 = number4 s at }, at + 4)

-- a number of 2 bytes at a place, at most so high
abbrev pub count_at : (s : List ℕ) (at most : ℕ) → Option (ℕ × ℕ)
count_at s at most = then_some (leb (number2 s at) most) (number2 s at, at + 2)
