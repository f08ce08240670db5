-- The letters at the front of what is lent, by the first byte that is none.
use Prim.Native.Nat.{ℕ, suc, ◌+◌, ◌-◌}
use mathlib.Core.Path.{◌≡◌, refl}
use mathlib.Core.Bool.{Bool, true, false, not, cond}
use mathlib.Core.List.{List, [], ◌∷◌}
use native.Mathlib.Nat.{le_refl}
use native.Mathlib.Omega.{arith}
use lib.Dec.{ltb}
use lib.ListN.{length, take, drop, length-drop}
use lib.Seq.{take_all}
use borrow.Author.Tests.{ltb-false}
use Rattle.numbers.proofs.Tests.{by_cases}
use Rattle.std.specs.Char.{is_ascii_alphabetic}
use Rattle.std.specs.List.{position_or_len}
use Rattle.std.specs.Option.{unwrap_or}
use Rattle.std.specs.Prelude.{Some, None}
use Rattle.rules.specs.Notice.{is_letter, letters_of}
use Rattle.rules.proofs.Names.{letters_within}

letters_first : (xs : List ℕ) → position_or_len (λ x. not (is_ascii_alphabetic x)) xs ≡ letters_of xs
unfolding letters_of is_letter
letters_first [] = refl
letters_first (x ∷ xs) = rw (letters_first xs) (go (is_ascii_alphabetic x))
  where
    go : (b : Bool) → cond (not (not b)) (1 + letters_of xs) 0 ≡ cond b (suc (letters_of xs)) 0
    go true = omega arith
    go false = refl

pub letters_counted : (xs : List ℕ) (r : _) → r ≡ cond (ltb (position_or_len (λ x. not (is_ascii_alphabetic x)) xs) (length xs)) (Some (position_or_len (λ x. not (is_ascii_alphabetic x)) xs)) None →
    unwrap_or r (length xs) ≡ letters_of xs
letters_counted xs r e =
    let long = letters_within xs in
    rw (e, letters_first xs)
    (by_cases (ltb (letters_of xs) (length xs)) (λ t. rw t) (λ t. rw t (omega (arith, ltb-false (letters_of xs) (length xs) t))))

-- all from a place on
pub from_place : (xs : List ℕ) (at : ℕ) → take (length xs - at) (drop at xs) ≡ drop at xs
from_place xs at = take_all (length xs - at) (drop at xs) (simp length-drop (le_refl _))
