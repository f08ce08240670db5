-- The second demand as a statement about whole boards: a board is accepted if and only if every rule of 01's table, every proof equation and
-- every tally equation holds; else the first broken rule is named. Rules.antt lists the rules, record by record.
-- Rounds and ballots count from 0 here; a board's header is `header s`. Each record stands where the one before it ends (`place`).
use Rattle.std.specs.Prelude.{ℕ, zero, suc, ◌+◌, ◌-◌, ◌≤◌, ◌<◌, ◌≡◌, ◌↔◌, ◌⊎◌, Bool, true, false, List, length}
use Rattle.std.proofs.Math.Option.{some}
use Rattle.std.proofs.Math.ListN.{get_elem?}
use Rattle.rules.specs.Records.{is_counted, records_of}
use Rattle.rules.specs.Count.{Standing, start, next, leaves, wins, closes}
use Rattle.rules.specs.Tests.{Test, first_fault}
use Rattle.rules.specs.Header.{ranked, Header, header, header_fault}
use Rattle.rules.specs.Check.{accepted, refused, place, kind, counted, pairs_place, record_number, matrix, counts, due, record_fault, round_sheet_fault, check_board}
use Rattle.rules.specs.declared.Model.{Model}
use Rattle.whole.specs.Rules.{HeaderRules, BallotRules, ShiftRules, SheetRules}

-- ---- the records where they stand
-- ballot k's BA, and with that of the last ballot 19: "a board with nothing counted (after the last BA, and naming it ..)" (02, L5)
pub record FirstRules (hash : List ℕ → List ℕ) (s : List ℕ) (h : Header) (k : ℕ) : Type 0 where
  pub ballot : BallotRules hash s h (place s h 0 k) (k + 1)
  pub some_counted_lem : k + 1 ≡ h.K → (j : ℕ) × (j < h.K) × (is_counted (kind s h j) ≡ true)

-- ballot k's record in round m: BA in the first round, SH in each further one, a having gone out in the round before; an audited ballot "has no SH"
abbrev pub RecordRules : (hash : List ℕ → List ℕ) (s : List ℕ) → Header → (a m k : ℕ) → Type 0
RecordRules hash s h a zero k = FirstRules hash s h k
RecordRules hash s h a (suc m) k =
    is_counted (kind s h k) ≡ true → ShiftRules hash s h (h.n - suc m) (place s h (suc m) k) (suc m + 1) a (pairs_place s h m k) (k + 1)

-- ballot k has a record in round m
abbrev pub HasRecord : (s : List ℕ) → Header → (m k : ℕ) → Type 0
HasRecord s h m k = records_of (kind s h k) m ≡ 1

-- the sheet of round m; out: what its out field is to hold
abbrev pub RoundSheetRules : (s : List ℕ) → Header → (m out : ℕ) → Type 0
RoundSheetRules s h m out = SheetRules s h (place s h m h.K) (m + 1) (λ k. is_counted (kind s h k)) (matrix s h m) out

-- where round m starts, which is where the one before it ends
abbrev pub round_place : (s : List ℕ) (m : ℕ) → ℕ
round_place s m = place s (header s) m 0

-- ---- the count, as the sheets on the board tell it
module _ (s : List ℕ) where
  -- "Each sheet takes the standing count and hands back the next": what stands before round m
  unfoldable pub standing_at : (m : ℕ) → Standing
  standing_at zero = start
  standing_at (suc m) = next (header s).n (standing_at m) (counts s (header s) m)

  -- who went out in the round before round m
  unfoldable pub out_before : (m : ℕ) → ℕ
  out_before zero = 0
  out_before (suc m) = leaves (header s).n (standing_at m) (counts s (header s) m)

  -- "A round closes the board if a process still in has 2 × count > K, or if m = n−1."; 02, L5: "majority .. over counted ballots"
  abbrev pub closes_at : (m : ℕ) → Bool
  closes_at m = closes (header s).n (standing_at m) (counts s (header s) m) (counted s (header s))

  -- "A closing sheet has out = 0"; otherwise out is the process that goes out (02, "Equal lowest counts")
  abbrev pub due_at : (m : ℕ) → ℕ
  due_at m = due (header s).n (counted s (header s)) (standing_at m) (counts s (header s) m)

  -- "Records are taken in order, numbered from 0": the number of ballot k's record in round m, and of that round's sheet
  abbrev pub ballot_number : (m k : ℕ) → ℕ
  ballot_number m k = record_number s (header s) m k

  abbrev pub sheet_number : (m : ℕ) → ℕ
  sheet_number m = record_number s (header s) m (header s).K

module _ (hash : List ℕ → List ℕ) (s : List ℕ) where
  -- ballot k's record in round m breaks no rule; nor does the sheet of round m
  abbrev pub RecordHolds : (m k : ℕ) → Type 0
  RecordHolds m k = RecordRules hash s (header s) (out_before s m) m k

  abbrev pub SheetHolds : (m : ℕ) → Type 0
  SheetHolds m = RoundSheetRules s (header s) m (due_at s m)

  -- a board of so many rounds on which every rule holds, with the order and the winner of its count
  pub record EveryRuleHolds (rounds : ℕ) (order : List ℕ) (winner : ℕ) : Type 0 where
    pub head : HeaderRules hash ranked s
    pub records : (m k : ℕ) → m < rounds → k < (header s).K → RecordHolds m k
    pub sheets : (m : ℕ) → m < rounds → SheetHolds m
    -- the last round closes the board, and none before it
    pub last : ℕ
    pub rounds_are : rounds ≡ last + 1
    pub closed : closes_at s last ≡ true
    pub not_before : (m : ℕ) → m < last → closes_at s m ≡ false
    -- 12, "after the closing sheet: bytes remain": none do
    pub ends : length s ≡ round_place s rounds
    pub order_is : order ≡ (standing_at s last).gone
    pub winner_is : winner ≡ wins (header s).n (standing_at s last) (counts s (header s) last)

  -- every record with a number below this breaks no rule
  pub record HoldsBefore (number : ℕ) : Type 0 where
    pub head : 0 < number → HeaderRules hash ranked s
    pub records : (m k : ℕ) → k < (header s).K → HasRecord s (header s) m k → ballot_number s m k < number → RecordHolds m k
    pub sheets : (m : ℕ) → sheet_number s m < number → SheetHolds m

  -- and no sheet among them closes the board
  abbrev pub OpenBefore : (number : ℕ) → Type 0
  OpenBefore number = (m : ℕ) → sheet_number s m < number → closes_at s m ≡ false

  -- "The result of a refusal is its number and the record's number (with 12, the number of records read)":
  -- no record before it breaks a rule, and its own first test that fails, in the table's order, has this refusal (`first_fault`; `first_fails`)
  pub data FirstBroken (refusal number : ℕ) : Type 0 where
    in_header : number ≡ 0 → header_fault hash ranked s ≡ refusal → 1 ≤ refusal → FirstBroken refusal number
    in_record : (m k : ℕ) → k < (header s).K → HasRecord s (header s) m k → number ≡ ballot_number s m k → HoldsBefore number → OpenBefore number →
        record_fault hash s (header s) (out_before s m) m k ≡ refusal → 1 ≤ refusal → FirstBroken refusal number
    in_sheet : (m : ℕ) → number ≡ sheet_number s m → HoldsBefore number → OpenBefore number →
        round_sheet_fault s (header s) m (due_at s m) ≡ refusal → 1 ≤ refusal → FirstBroken refusal number
    -- "after the closing sheet: bytes remain"
    at_end : (m : ℕ) → number ≡ sheet_number s m + 1 → HoldsBefore number → OpenBefore (sheet_number s m) → closes_at s m ≡ true →
        round_place s (suc m) < length s → refusal ≡ 12 → FirstBroken refusal number

-- the first of the tests that fails has this refusal
pub record FirstFails (tests : List Test) (number : ℕ) : Type 0 where
  pub index : ℕ
  pub test : Test
  pub stands : get_elem? tests index ≡ some test
  pub fails : test.holds ≡ false
  pub numbered : test.refusal ≡ number
  pub earlier : (i : ℕ) (t : Test) → i < index → get_elem? tests i ≡ some t → t.holds ≡ true

pub record SecondDemand (hash : List ℕ → List ℕ) : Type 0 where
  -- accepted if and only if every rule of 01's table, every proof equation and every tally equation holds
  pub accepted_iff : (s : List ℕ) (rounds : ℕ) (order : List ℕ) (winner : ℕ) →
      (check_board hash s ≡ accepted rounds order winner) ↔ EveryRuleHolds hash s rounds order winner
  -- else the first broken rule is named
  pub refused_iff : (s : List ℕ) (refusal number : ℕ) → (check_board hash s ≡ refused refusal number) ↔ FirstBroken hash s refusal number
  -- of every board one or the other holds
  pub either : (s : List ℕ) →
      ((rounds : ℕ) × (order : List ℕ) × (winner : ℕ) × EveryRuleHolds hash s rounds order winner)
      ⊎ ((refusal : ℕ) × (number : ℕ) × FirstBroken hash s refusal number)
  -- a number names one record: no two ballots' records have the same, nor a ballot's and a sheet
  pub one_record : (s : List ℕ) (h : Header) (m k r j : ℕ) → k < h.K → j < h.K → HasRecord s h m k → HasRecord s h r j → record_number s h m k ≡ record_number s h r j → (m ≡ r) × (k ≡ j)
  pub no_sheet : (s : List ℕ) (h : Header) (m k r : ℕ) → k < h.K → HasRecord s h m k → record_number s h m k ≡ record_number s h r h.K → ⊥
  -- what the first fault of a list of tests is; there is none just where the record breaks no rule
  pub first_fails : (tests : List Test) (number : ℕ) → 1 ≤ number → (first_fault tests ≡ number) ↔ FirstFails tests number
  pub header_tests : (model : Model) (s : List ℕ) → (header_fault hash model s ≡ 0) ↔ HeaderRules hash model s
  pub record_tests : (s : List ℕ) (h : Header) (a m k : ℕ) → (record_fault hash s h a m k ≡ 0) ↔ RecordRules hash s h a m k
  pub sheet_tests : (s : List ℕ) (h : Header) (m out : ℕ) → (round_sheet_fault s h m out ≡ 0) ↔ RoundSheetRules s h m out
