-- The RT record at a place: its fields, and its tests in the table's order.
use Rattle.std.specs.Prelude.{ℕ, zero, suc, ◌+◌, ◌*◌, ◌%◌, Bool, ◌&&◌, List, [], ◌∷◌, ◌++◌, leb, ltb, eqb, get_or}
use Rattle.numbers.specs.Below.{all_below}
use Rattle.group.specs.Arithmetic.{pow_mod}
use Rattle.rules.specs.Bytes.{number4, number2}
use Rattle.rules.specs.Group.{paired}
use Rattle.rules.specs.Records.{RT, sheet_length}
use Rattle.rules.specs.Claims.{Matrix}
use Rattle.rules.specs.Count.{table}
use Rattle.rules.specs.Tests.{Test, first_fault, ◌or_else◌, frame}
use Rattle.rules.specs.Header.{Header}

-- "over all K ballots' first rows: product of b", "product of Y"; 02, L5: an audited ballot "enters no product". Those of the ballots so far, by column
pub record Tally : Type 0 where
  pub b : ℕ → ℕ
  pub y : ℕ → ℕ

-- of no ballot
abbrev pub no_row : Tally
no_row = record { b = λ _. 1; y = λ _. 1 }

-- with the first row of one matrix more
abbrev pub with_row : Tally → Matrix → Tally
with_row T M = record { b = λ i. T.b i * M.b 0 i; y = λ i. T.y i * M.y 0 i }

-- "RT | round 1, out 1, then per process count 2, s 4"
module _ (s : List ℕ) (at : ℕ) where
  abbrev pub out_at : ℕ
  out_at = get_or s (at + 3) 0

  abbrev pub count_at : (i : ℕ) → ℕ
  count_at i = number2 s (at + 4 + 6 * i)

  abbrev pub exponent_at : (i : ℕ) → ℕ
  exponent_at i = number4 s (at + 6 + 6 * i)

  unfoldable pub counts_at : (n : ℕ) → List ℕ
  counts_at n = table n count_at

module _ (s : List ℕ) (h : Header) (at : ℕ) where
  -- 1, 2 and 6
  abbrev pub sheet_frame : (round : ℕ) → List Test
  sheet_frame round = frame s at (sheet_length h.n) RT (get_or s (at + 2) 0) round

  -- 7 of each s, and 9, "in that same walk: count > K"; 02, L5: "the count limit of 9" is "over counted ballots", of which there are C
  unfoldable pub sheet_fields : (C i : ℕ) → List Test
  sheet_fields C zero = []
  sheet_fields C (suc i) = sheet_fields C i ++ ((leb (count_at s at i) C or_else 9) ∷ (ltb (exponent_at s at i) h.group.q or_else 7) ∷ [])

  -- 10: "product of b = g0^s × g1^count, product of Y = g1^s"
  unfoldable pub tallies : Tally → Bool
  tallies T =
      all_below h.n (λ i.
      eqb (T.b i % h.group.p) (paired h.group (exponent_at s at i) (count_at s at i))
      && eqb (T.y i % h.group.p) (pow_mod h.group.p h.group.g1 (exponent_at s at i)))

  -- the sheet due: its round, from 1, and what its out field is to hold; C ballots are counted
  unfoldable pub sheet_fault : (round C : ℕ) → Tally → (due : ℕ) → ℕ
  sheet_fault round C T due =
      first_fault (sheet_frame round ++ (sheet_fields C h.n ++ ((tallies T or_else 10) ∷ (eqb (out_at s at) due or_else 11) ∷ [])))
