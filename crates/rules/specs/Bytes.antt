-- "All fields are unsigned, high byte first."
use Rattle.std.specs.Prelude.{ℕ, ◌+◌, ◌*◌, ◌/◌, ◌%◌, ◌≤◌, ◌<◌, ◌≡◌, List, [], ◌∷◌, length, get_or, take, drop}

-- the len bytes at a place
abbrev pub part : (s : List ℕ) (at len : ℕ) → List ℕ
part s at len = take len (drop at s)

-- the numbers of 2, 4 and 8 bytes at a place
abbrev pub number2 : (s : List ℕ) (at : ℕ) → ℕ
number2 s at = get_or s at 0 * 256 + get_or s (at + 1) 0

abbrev pub number4 : (s : List ℕ) (at : ℕ) → ℕ
number4 s at = get_or s at 0 * 16777216 + get_or s (at + 1) 0 * 65536 + get_or s (at + 2) 0 * 256 + get_or s (at + 3) 0

abbrev pub number8 : (s : List ℕ) (at : ℕ) → ℕ
number8 s at = number4 s at * 4294967296 + number4 s (at + 4)

-- the bytes of a number below 2^16, and of one below 2^32
abbrev pub bytes2 : ℕ → List ℕ
bytes2 x = x / 256 % 256 ∷ x % 256 ∷ []

abbrev pub bytes4 : ℕ → List ℕ
bytes4 x = x / 16777216 % 256 ∷ x / 65536 % 256 ∷ x / 256 % 256 ∷ x % 256 ∷ []

-- for contracts and laws: a list stands in another at a place
pub record Stands (s : List ℕ) (at : ℕ) (x : List ℕ) : Type 0 where
  pub fits : at + length x ≤ length s
  pub same : (d : ℕ) → d < length x → get_or s (at + d) 0 ≡ get_or x d 0
