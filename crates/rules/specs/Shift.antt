-- The SH record at a place: its fields, and its tests in the table's order.
use Rattle.std.specs.Prelude.{ℕ, ◌+◌, ◌*◌, ◌-◌, Bool, ◌&&◌, List, [], ◌∷◌, ◌++◌}
use Rattle.rules.specs.Bytes.{number2}
use Rattle.rules.specs.Records.{SH, shift_length}
use Rattle.rules.specs.Proofs.{Context, proof_fields}
use Rattle.rules.specs.Claims.{matrix_at, shift_claim}
use Rattle.rules.specs.Tests.{Test, first_fault, ◌or_else◌, frame}
use Rattle.rules.specs.Header.{Header}
use Rattle.rules.specs.Ballot.{pairs_good, holds_at}

-- "SH | number 2; R × n pairs; one shift proof": where the proof stands
abbrev pub shift_proof : (n R at : ℕ) → ℕ
shift_proof n R at = at + 4 + 8 * (R * n)

-- its place in the record, which has no other
abbrev pub shift_place : ℕ
shift_place = 0

-- of a record of a round, from 1
abbrev pub shift_context : (round number : ℕ) → Context
shift_context round number = record { mark = SH; number = number; round = round; place = shift_place }

module _ (s : List ℕ) (h : Header) (R at : ℕ) where
  -- 1, 2 and 6
  abbrev pub shift_frame : (number : ℕ) → List Test
  shift_frame number = frame s at (shift_length h.n R) SH (number2 s (at + 2)) number

  -- 7: "R+1 branches", of two statements and one for each new pair
  unfoldable pub shift_fields : Bool
  shift_fields =
      pairs_good h R (matrix_at s h.n (at + 4))
      && proof_fields s (shift_proof h.n R at) (R + 1) (2 + R * h.n) h.group.p h.group.q

module _ (hash : List ℕ → List ℕ) (s : List ℕ) (h : Header) (R at : ℕ) where
  -- 8: the record is of a round, from 1; the pairs of the ballot's record a round earlier start at before, and process a went out in that round
  unfoldable pub shift_holds : (round a before : ℕ) → Bool
  shift_holds round a before =
      holds_at hash s h (shift_context round (number2 s (at + 2))) (shift_proof h.n R at) (R + 1) (2 + R * h.n)
      (λ l i. shift_claim h.group h.n (matrix_at s h.n before) (matrix_at s h.n (at + 4)) (a - 1) l i)

  -- the record due: the number of its ballot, from 1
  unfoldable pub shift_fault : (round a before number : ℕ) → ℕ
  shift_fault round a before number =
      first_fault (shift_frame s h R at number ++ ((shift_fields s h R at or_else 7) ∷ (shift_holds round a before or_else 8) ∷ []))
