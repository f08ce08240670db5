-- "Finding many receipts in one walk", request L1 of 02: under which number the ballot stands whose record has a digest. Text in quotation marks
-- is 02's, of 01 where it says so.
use Rattle.std.specs.Prelude.{ℕ, ◌+◌, ◌*◌, ◌-◌, ◌/◌, ◌%◌, Bool, true, false, cond, ◌&&◌, ◌||◌, List, [], ◌∷◌, ◌++◌, leb, ltb, eqb, length, drop}
use Rattle.std.proofs.Math.Option.{none, some}
use Rattle.numbers.specs.Below.{all_below, first_below}
use Rattle.rules.specs.Bytes.{part}
use Rattle.rules.specs.Records.{ballot_length}
use Rattle.rules.specs.Count.{table}
use Rattle.rules.specs.Tests.{first_fault, fault_below, ◌or_else◌}
use Rattle.rules.specs.Header.{ranked, header, header_fault}
use Rattle.rules.specs.Ballot.{ballot_frame}
use Rattle.rules.specs.Check.{place, kind, record_number}

-- ---- digests of 32 bytes, one after another
abbrev pub digest_count : (digests : List ℕ) → ℕ
digest_count digests = length digests / 32

abbrev pub digest_at : (digests : List ℕ) (i : ℕ) → List ℕ
digest_at digests i = part digests (i * 32) 32

-- byte for byte the same
unfoldable pub same : (a b : List ℕ) → Bool
same [] [] = true
same [] (y ∷ b) = false
same (x ∷ a) [] = false
same (x ∷ a) (y ∷ b) = eqb x y && same a b

-- the same, or lower where they first differ
unfoldable pub not_above : (a b : List ℕ) → Bool
not_above [] b = true
not_above (x ∷ a) [] = false
not_above (x ∷ a) (y ∷ b) = ltb x y || (eqb x y && not_above a b)

-- "up to 500 digests in rising order (equal ones allowed)"; "It refuses first with 16 a list over 500, out of order or no multiple of 32 bytes"
unfoldable pub digests_good : (digests : List ℕ) → Bool
digests_good digests =
    eqb (length digests % 32) 0 && leb (digest_count digests) 500
    && all_below (digest_count digests - 1) (λ i. not_above (digest_at digests i) (digest_at digests (i + 1)))

-- 16, "and with 15 a lent list that is too short, before any board fault"; room: the places of the lent list
unfoldable pub list_fault : (digests : List ℕ) (room : ℕ) → ℕ
list_fault digests room = first_fault ((digests_good digests or_else 16) ∷ (leb (digest_count digests) room or_else 15) ∷ [])

-- ---- the ballots of a board
module _ (s : List ℕ) where
  -- ballot k's BA record, all its bytes, what an audited one shows among them
  abbrev pub ballot_record : (k : ℕ) → List ℕ
  ballot_record k = part s (place s (header s) 0 k) (ballot_length (header s).n (kind s (header s) k))

  -- "Refusals 1 to 6 hold up to the last BA": 1, 2 and 6 of ballot k's record; L5: 17 "(after 6, in L1's walk too ..)"
  abbrev pub frame_fault : (k : ℕ) → ℕ
  frame_fault k = first_fault (ballot_frame s (header s) (place s (header s) 0 k) (k + 1))

-- the ballots' numbers, one for each digest; or a refusal with its record
pub data Finding : Type 0 where
  numbers_found : (numbers : List ℕ) → Finding
  find_refused : (refusal number : ℕ) → Finding

module _ (hash : List ℕ → List ℕ) (s : List ℕ) where
  -- "looking up each digest alone, lowest number first": "each one's ballot number, or 0"
  abbrev pub number_of : (digest : List ℕ) → ℕ
  number_of digest = first_below (header s).K (λ k. same (hash (ballot_record s k)) digest)

  -- "Refusals 1 to 6 hold up to the last BA; proofs are left to the checker.": the first, or with none the number of each digest
  unfoldable pub find_in_ballots : (digests : List ℕ) → Finding
  find_in_ballots digests =
      elim (fault_below (header s).K (frame_fault s)) [
        | some w ↦ find_refused w.1 (record_number s (header s) 0 w.0)
        | none ↦ numbers_found (table (digest_count digests) (λ i. number_of (digest_at digests i)))
      ]

  unfoldable pub find_on_board : (digests : List ℕ) → Finding
  find_on_board digests = cond (eqb (header_fault hash ranked s) 0) (find_in_ballots digests) (find_refused (header_fault hash ranked s) 0)

  -- the tests of the list, which concern no record, then those of the board
  unfoldable pub find_outcome : (digests : List ℕ) (room : ℕ) → Finding
  find_outcome digests room = cond (eqb (list_fault digests room) 0) (find_on_board digests) (find_refused (list_fault digests room) 0)

-- "the box writes each one's ballot number, or 0, to a lent list"; "A refusal writes nothing to the list."; of 01 "unchanged past the written part"
abbrev pub list_after : Finding → (list : List ℕ) → List ℕ
list_after (numbers_found numbers) list = numbers ++ drop (length numbers) list
list_after (find_refused refusal number) list = list
