-- The pieces of the test programs' input.
use Rattle.std.specs.Prelude.{ℕ, ◌+◌, ◌≤◌, List, Bool, true, false, leb, length, Option, Some, None}
use Rattle.rules.specs.Bytes.{number4}
use Rattle.testing.specs.declared.input.Ends.{Ends}

abbrev pub piece_if : Bool → Option (ℕ × ℕ) → Option (ℕ × ℕ)
piece_if true p = p
piece_if false p = None

-- the piece at a place: a length of 4 bytes, and as many bytes after it, if the input holds them
abbrev pub piece_at : (s : List ℕ) (at : ℕ) → Option (ℕ × ℕ)
piece_at s at =
    piece_if (leb (at + 4) (length s))
    (piece_if (leb (at + 4 + number4 s at) (length s)) (Some (at + 4, at + 4 + number4 s at)))

-- the pieces of the case at a place stand one behind the other, and the number behind them, within the input
pub record Within (s : List ℕ) (at : ℕ) (e : Ends) : Type 0 where
  pub named : at + 4 ≤ e.name
  pub boarded : e.name + 4 ≤ e.board
  pub asked : e.board + 4 ≤ e.asked
  pub ended : e.asked + 4 ≤ length s

unfoldable pub QuestionReads : (s : List ℕ) (at : ℕ) → Option Ends → Type 0
QuestionReads s at (Some e) = Within s at e
QuestionReads s at None = Unit
