-- Where a board stops: its records in the order in which they are read, and the verdict.
use Rattle.std.specs.Prelude.{ℕ, zero, suc, ◌+◌, ◌-◌, Bool, cond, not, ◌||◌, List, [], ◌∷◌, ◌++◌, eqb, length}
use Rattle.std.proofs.Math.Option.{none, some}
use Rattle.numbers.specs.Below.{sum_below}
use Rattle.rules.specs.Records.{header_length, kind_at, is_counted, records_of, record_length, sheet_length, pairs_from}
use Rattle.rules.specs.Claims.{Matrix, matrix_at}
use Rattle.rules.specs.Count.{Standing, start, next, leaves, wins, closes}
use Rattle.rules.specs.Tests.{first_fault, fault_below, ◌or_else◌}
use Rattle.rules.specs.Header.{ranked, small, Header, header, header_fault}
use Rattle.rules.specs.Ballot.{ballot_tests}
use Rattle.rules.specs.Shift.{shift_fault}
use Rattle.rules.specs.Sheet.{Tally, no_row, with_row, out_at, count_at, exponent_at, counts_at, sheet_fault}
use Rattle.rules.specs.declared.Model.{Model}

-- accepted, with the rounds, the order of going out and the winner; or "a refusal is its number and the record's number"
pub data Verdict : Type 0 where
  accepted : (rounds : ℕ) (order : List ℕ) (winner : ℕ) → Verdict
  refused : (refusal number : ℕ) → Verdict

-- how far a board is read: "the next unread place"; the records read, which is the number of the next, since "Records are taken in order,
-- numbered from 0"; and the products of the first rows that the round has so far
pub record Position : Type 0 where
  pub place : ℕ
  pub number : ℕ
  pub tally : Tally

-- past the header
abbrev pub past_header : Position
past_header = record { place = header_length; number = 1; tally = no_row }

-- "A board is HD, K BA numbered 1 to K, RT; each further round is K SH, numbered alike, then RT."; 02, L5: an audited ballot "has no SH (the others
-- keep their numbers) and enters no product". Each record stands where the one before it ends.
module _ (s : List ℕ) (h : Header) where
  -- past what a ballot of a kind has in round m
  abbrev pub past_record : (m kind : ℕ) → Position → Position
  past_record m kind w =
      record {
        place = w.place + record_length h.n kind m;
        number = w.number + records_of kind m;
        tally = cond (is_counted kind) (with_row w.tally (matrix_at s h.n (pairs_from m w.place))) w.tally;
      }

  -- past a sheet
  abbrev pub past_sheet : Position → Position
  past_sheet w = record { place = w.place + sheet_length h.n; number = w.number + 1; tally = no_row }

  -- past the first k ballots, each of the kind that its record shows
  unfoldable pub ballots_read : (k : ℕ) → Position
  ballots_read zero = past_header
  ballots_read (suc k) = past_record 0 (kind_at s (ballots_read k).place) (ballots_read k)

  -- the kind of ballot k, and the number of counted ones among the first k, and of all
  abbrev pub kind : (k : ℕ) → ℕ
  kind k = kind_at s (ballots_read k).place

  abbrev pub counted_below : (k : ℕ) → ℕ
  counted_below k = sum_below k (λ i. cond (is_counted (kind i)) 1 0)

  abbrev pub counted : ℕ
  counted = counted_below h.K

  -- past the first k ballots' shifts of a further round m, which starts at a position
  unfoldable pub shifts_read : (m : ℕ) → Position → (k : ℕ) → Position
  shifts_read m w zero = w
  shifts_read m w (suc k) = past_record m (kind k) (shifts_read m w k)

  -- ahead of what ballot k has in round m; with k = K, of the sheet
  unfoldable pub position : (m k : ℕ) → Position
  position zero k = ballots_read k
  position (suc m) k = shifts_read (suc m) (past_sheet (position m h.K)) k

  abbrev pub place : (m k : ℕ) → ℕ
  place m k = (position m k).place

  abbrev pub record_number : (m k : ℕ) → ℕ
  record_number m k = (position m k).number

  -- where the pairs of ballot k's record in round m start, and its matrix
  abbrev pub pairs_place : (m k : ℕ) → ℕ
  pairs_place m k = pairs_from m (place m k)

  abbrev pub matrix : (m k : ℕ) → Matrix
  matrix m k = matrix_at s h.n (pairs_place m k)

  -- of the sheet of round m
  abbrev pub out_field : (m : ℕ) → ℕ
  out_field m = out_at s (place m h.K)

  abbrev pub count_field : (m i : ℕ) → ℕ
  count_field m i = count_at s (place m h.K) i

  abbrev pub s_field : (m i : ℕ) → ℕ
  s_field m i = exponent_at s (place m h.K) i

  abbrev pub counts : (m : ℕ) → List ℕ
  counts m = counts_at s (place m h.K) h.n

  -- the fault of the sheet of round m; due: what its out field is to hold
  abbrev pub round_sheet_fault : (m due : ℕ) → ℕ
  round_sheet_fault m due = sheet_fault s h (place m h.K) (m + 1) counted (position m h.K).tally due

  -- past the sheet of the round m that closes the board: "with 12, the number of records read"
  abbrev pub ending : Standing → (m : ℕ) → Verdict
  ending st m =
      cond (eqb (length s) (place (suc m) 0))
      (accepted (m + 1) st.gone (wins h.n st (counts m)))
      (refused 12 (record_number (suc m) 0))

  -- 19, "a board with nothing counted (after the last BA, and naming it ..)": of the last ballot's record
  abbrev pub some_counted : (k : ℕ) → Bool
  some_counted k = not (eqb (k + 1) h.K) || not (eqb counted 0)

-- "A closing sheet has out = 0"; otherwise out is the process that leaves; C ballots are counted, and "majority .. over counted ballots" (02, L5)
abbrev pub due : (n C : ℕ) → Standing → (counts : List ℕ) → ℕ
due n C st cs = cond (closes n st cs C) 0 (leaves n st cs)

module _ (hash : List ℕ → List ℕ) (s : List ℕ) where
  module _ (h : Header) where
    -- what ballot k has in round m: BA in the first round, SH in each further one where it is counted; a went out in the round before
    unfoldable pub record_fault : (a m k : ℕ) → ℕ
    record_fault a zero k = first_fault (ballot_tests hash s h (place s h 0 k) (k + 1) ++ ((some_counted s h k or_else 19) ∷ []))
    record_fault a (suc m) k =
        cond (is_counted (kind s h k))
        (shift_fault hash s h (h.n - suc m) (place s h (suc m) k) (suc m + 1) a (pairs_place s h m k) (k + 1))
        0

    -- one round: its ballots' records, its sheet, and what comes after
    unfoldable pub round_verdict : Standing → (m a : ℕ) → (after : Verdict) → Verdict
    round_verdict st m a after =
        elim (fault_below h.K (record_fault a m)) [
          | some w ↦ refused w.1 (record_number s h m w.0)
          | none ↦
              cond (eqb (round_sheet_fault s h m (due h.n (counted s h) st (counts s h m))) 0)
              (cond (closes h.n st (counts s h m) (counted s h)) (ending s h st m) after)
              (refused (round_sheet_fault s h m (due h.n (counted s h) st (counts s h m))) (record_number s h m h.K))
        ]

    -- from round m on; a went out in the round before. Fuel bounds the rounds, and its end is no board's answer (`whole`, Refusals).
    unfoldable pub check_from : (fuel : ℕ) → Standing → (m a : ℕ) → Verdict
    check_from zero st m a = refused 0 0
    check_from (suc fuel) st m a =
        round_verdict st m a (check_from fuel (next h.n st (counts s h m)) (suc m) (leaves h.n st (counts s h m)))

  -- a board with the header of a model
  unfoldable pub check_model : Model → Verdict
  check_model model = cond (eqb (header_fault hash model s) 0) (check_from (header s) (header s).n start 0 0) (refused (header_fault hash model s) 0)

  abbrev pub check_board : Verdict
  check_board = check_model ranked

  -- the second entry's verdict, for the screen in the council room (02, L12)
  abbrev pub check_small : Verdict
  check_small = check_model small
