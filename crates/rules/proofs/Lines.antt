-- How long the parts of a line are.
use Prim.Native.Nat.{ℕ, ◌+◌}
use mathlib.Core.Path.{◌≡◌, refl}
use mathlib.Core.Bool.{Bool, true, false, cond}
use mathlib.Core.List.{List}
use native.Mathlib.Omega.{arith}
use lib.ListN.{length, length-append}
use Rattle.rules.specs.Sentences.{bytes, decimal, opening, count_text, ending}

pub opening_long : (m : ℕ) → length (opening m) ≡ 8 + length (decimal (m + 1))
unfolding bytes
opening_long m = simp length-append (omega arith)

pub count_long : (name : List ℕ) (count : ℕ) → length (count_text name count) ≡ length name + 8 + length (decimal count)
unfolding bytes
count_long name count = simp length-append (omega arith)

pub verb_long : (last : Bool) → length (cond last (bytes " wins.") (bytes " leaves.")) ≡ cond last 6 8
unfolding bytes
verb_long true = refl
verb_long false = refl

pub ending_long : (last : Bool) (name : List ℕ) → length (ending last name) ≡ 3 + length name + cond last 6 8
unfolding bytes
ending_long true name = simp length-append (omega arith)
ending_long false name = simp length-append (omega arith)
