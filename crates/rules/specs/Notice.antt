-- The text for a board, request L7 of 02: the names that are lent, the result that a board has, and what is refused. Text in quotation marks is 02's, of 01
-- where it says so.
use Rattle.std.specs.Prelude.{ℕ, zero, suc, ◌+◌, Bool, cond, not, ◌&&◌, ◌||◌, List, [], ◌∷◌, ◌++◌, leb, eqb, length, get_or, drop}
use Rattle.numbers.specs.Below.{all_below}
use Rattle.rules.specs.Bytes.{part}
use Rattle.rules.specs.Count.{table, Result}
use Rattle.rules.specs.Tests.{first_fault, ◌or_else◌}
use Rattle.rules.specs.Header.{header}
use Rattle.rules.specs.Check.{accepted, refused, counts, check_board}
use Rattle.rules.specs.Receipts.{same}
use Rattle.rules.specs.Sentences.{text}

-- ---- the names: "each lent with a line feed after it"
-- "letters A to Z and a to z"
unfoldable pub is_letter : (x : ℕ) → Bool
is_letter x = (leb 65 x && leb x 90) || (leb 97 x && leb x 122)

-- how many letters stand at the front
unfoldable pub letters_of : List ℕ → ℕ
letters_of [] = 0
letters_of (x ∷ xs) = cond (is_letter x) (suc (letters_of xs)) 0

module _ (lent : List ℕ) where
  -- the letters that stand at a place
  abbrev pub letters_at : (at : ℕ) → ℕ
  letters_at at = letters_of (drop at lent)

  -- where the name of process i + 1 starts: past the line feed after the one before it
  unfoldable pub name_from : (i : ℕ) → ℕ
  name_from zero = 0
  name_from (suc i) = name_from i + letters_at (name_from i) + 1

  abbrev pub name_length : (i : ℕ) → ℕ
  name_length i = letters_at (name_from i)

  abbrev pub name_of : (i : ℕ) → List ℕ
  name_of i = part lent (name_from i) (name_length i)

  -- "Names are 1 to 20 letters", "each lent with a line feed after it"
  abbrev pub name_fits : (i : ℕ) → Bool
  name_fits i = leb 1 (name_length i) && leb (name_length i) 20 && eqb (get_or lent (name_from i + name_length i) 0) 10

  -- "one per process, all different"; with nothing behind the last
  unfoldable pub names_good : (n : ℕ) → Bool
  names_good n =
      all_below n name_fits && eqb (name_from n) (length lent)
      && all_below n (λ i. all_below i (λ j. not (same (name_of i) (name_of j))))

-- ---- the result of a board: the verdict's rounds, order and winner, and the counts on the sheet of each round
abbrev pub board_result : (s : List ℕ) (rounds : ℕ) (order : List ℕ) (winner : ℕ) → Result
board_result s rounds order winner = record { rounds = rounds; counts = table rounds (counts s (header s)); order = order; winner = winner }

-- "The answer is the text's length.", and the text; or a refusal with its record
pub data Telling : Type 0 where
  text_told : (long : ℕ) (text : List ℕ) → Telling
  text_refused : (refusal number : ℕ) → Telling

-- "It refuses with 21 bad or equal names, then with 15 a short output."; room: the output's length
unfoldable pub text_fault : (n : ℕ) (lent : List ℕ) (told : List ℕ) (room : ℕ) → ℕ
text_fault n lent told room = first_fault ((names_good lent n or_else 21) ∷ (leb (length told) room or_else 15) ∷ [])

-- the text of a result of n processes, where the names are good and the output is long enough
unfoldable pub tell : (n : ℕ) (lent : List ℕ) (r : Result) (room : ℕ) → Telling
tell n lent r room =
    cond (eqb (text_fault n lent (text n (name_of lent) r) room) 0)
    (text_told (length (text n (name_of lent) r)) (text n (name_of lent) r))
    (text_refused (text_fault n lent (text n (name_of lent) r) room) 0)

-- "A board that the checker refuses is refused alike, first."
unfoldable pub text_outcome : (hash : List ℕ → List ℕ) (s lent : List ℕ) (room : ℕ) → Telling
text_outcome hash s lent room =
    elim (check_board hash s) [
      | accepted rounds order winner ↦ tell (header s).n lent (board_result s rounds order winner) room
      | refused refusal number ↦ text_refused refusal number
    ]

-- the output: of 01 "unchanged by a refusal, unchanged past the written part"
abbrev pub output_after : Telling → (out : List ℕ) → List ℕ
output_after (text_told long told) out = told ++ drop long out
output_after (text_refused refusal number) out = out
