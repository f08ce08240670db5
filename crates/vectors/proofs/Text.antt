-- The law of `hexadecimal`'s loop.
use mathlib.Core.Path.{◌≡◌, refl, ap}
use mathlib.Core.List.{List, [], ◌∷◌, ◌++◌}
use Prim.Native.Nat.{ℕ, ◌+◌, ◌*◌, ◌/◌, ◌%◌, ◌≤◌, ◌<◌}
use native.Mathlib.Numerals.{add-one}
use native.Mathlib.Omega.{arith}
use lib.ListN.{length, get_or, take, set}
use lib.Seq.{take-suc}
use Rattle.io.specs.Digits.{hex_digit_ascii, last_digits}
use Rattle.sha256.proofs.Tail.{grown_by}
use Rattle.vectors.specs.Hex.{hexadecimal}

snoc : (bs : List ℕ) (b : ℕ) → hexadecimal (bs ++ (b ∷ [])) ≡ hexadecimal bs ++ last_digits 16 2 b
unfolding hexadecimal
snoc [] b = refl
snoc (x ∷ bs) b = ap (λ (r : List ℕ). last_digits 16 2 x ++ r) (snoc bs b)

-- the two digits of the next byte
pub more : (bs text : List ℕ) (i x y : ℕ) → i < length bs → i * 2 + 2 ≤ length text → take (i * 2) text ≡ hexadecimal (take i bs)
    → x ≡ hex_digit_ascii (get_or bs i 0 / 16 % 16) → y ≡ hex_digit_ascii (get_or bs i 0 % 16)
    → take ((i + 1) * 2) (set (set text (i * 2) x) (i * 2 + 1) y) ≡ hexadecimal (take (i + 1) bs)
more bs text i x y hb ht e dx dy =
    let t : take (i + 1) bs ≡ take i bs ++ (get_or bs i 0 ∷ []) = rw add-one (take-suc bs i 0 hb) in
    rw (t, snoc, add-one (i * 2), dx, dy)
    (grown_by (last_digits 16 2 (get_or bs i 0)) text (hexadecimal (take i bs)) (i * 2) ((i + 1) * 2) ht e (omega arith))
