-- The table of a matrix's inverses, as it is made.
use Prim.Native.Nat.{ℕ, zero, suc, ◌+◌, ◌-◌, ◌≤◌}
use mathlib.Core.Path.{◌≡◌, refl, ap, ◌∙◌}
use mathlib.Core.List.{List, ◌++◌}
use native.Mathlib.Omega.{arith}
use lib.ListN.{length, get_or, drop, replicate, length-append, length-drop, length-replicate}
use Rattle.std.proofs.lemmas.List.{get_or_append_left, get_or-append_right, get_or-drop}
use Rattle.group.specs.declared.Element.{Element}
use Rattle.statements.specs.Claims.{Inverted, InverseTable}

same_everywhere : {A : Type 0} (n i : ℕ) (a : A) → get_or (replicate n a) i a ≡ a
same_everywhere zero i a = refl
same_everywhere (suc n) zero a = refl
same_everywhere (suc n) (suc i) a = same_everywhere n i a

-- a table that holds the inverses first, and zeros after them
pub table_made : (s : List ℕ) (p q at words : ℕ) (made : List Element) → words ≤ 128 → length made ≡ words → Inverted s p q at words made → InverseTable s p q at words (made ++ drop words (replicate 128 (record { 0 = 0 })))
table_made s p q at words made h e inverted =
    let none : Element = record { 0 = 0 } in
    let number = λ (x : Element). x.0 in
    record {
      long = simp (length-append, length-drop, length-replicate) (omega arith);
      inverted = λ u l. ap number (get_or_append_left made _ none u (omega arith)) ∙ inverted u l;
      zeros = λ u l. ap number (get_or-append_right made (drop words (replicate 128 none)) words u none e l ∙ get_or-drop words (replicate 128 none) (u - words) none ∙ same_everywhere 128 (words + (u - words)) none);
    }
