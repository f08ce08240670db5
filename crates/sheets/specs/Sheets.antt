-- What the tests of a sheet tell, and the parts of them.
use Rattle.std.specs.Prelude.{ℕ, ◌+◌, ◌*◌, ◌≤◌, ◌<◌, ◌≡◌, Bool, true, false, cond, ◌&&◌, List, [], ◌∷◌, ◌++◌, eqb, leb, ltb, get_or, take, Result, Ok, Err}
use Rattle.group.specs.declared.Exponent.{Exponent}
use Rattle.rules.specs.Bytes.{number2, number4}
use Rattle.rules.specs.Count.{table, next, ended, leaves, wins, closes}
use Rattle.rules.specs.Tests.{Test, first_fault, ◌or_else◌}
use Rattle.rules.specs.Sheet.{Tally, counts_at, sheet_fields, sheet_fault}
use Rattle.rules.specs.Check.{due}
use Rattle.rules.specs.Answers.{refusal_number}
use Rattle.count.specs.declared.Count.{Count}
use Rattle.count.specs.State.{standing_of, result_of, Kept}
use Rattle.rules.specs.Records.{sheet_length}
use Rattle.rules.specs.declared.Refusal.{Refusal}
use Rattle.header.specs.declared.Head.{Head}
use Rattle.sheets.specs.declared.Outcome.{Outcome}
use Rattle.sheets.specs.declared.Outcome.TheVariants.{Closed, Open}
use Rattle.sheets.specs.declared.SheetFields.{SheetFields}
use Rattle.sheets.specs.declared.Step.{Step}
use Rattle.header.specs.Heads.{head_of}

-- the fields of process i + 1
abbrev pub count_good : (s : List ℕ) (k q at i : ℕ) → Bool
count_good s k q at i = leb (number2 s (at + 4 + 6 * i)) k && ltb (number4 s (at + 6 + 6 * i)) q

-- the exponent of process i + 1 among those of a sheet
abbrev pub exponent_of : List Exponent → ℕ → ℕ
exponent_of xs i = (get_or xs i (record { 0 = 0 })).0

-- the walk of the fields of a sheet at a place, C ballots being counted: the counts and exponents that were read, or the first refusal
unfoldable pub Counted : (s : List ℕ) → Head → (C at : ℕ) → Result SheetFields Refusal → Type 0
Counted s h C at (Ok r) =
    ((rest : List Test) → first_fault (sheet_fields s (head_of s h) at C h.n ++ rest) ≡ first_fault rest)
    × (take h.n r.sheet.counts ≡ table h.n (λ i. number2 s (at + 4 + 6 * i)))
    × ((i : ℕ) → i < h.n → exponent_of r.s i ≡ number4 s (at + 6 + 6 * i))
Counted s h C at (Err w) = (rest : List Test) → first_fault (sheet_fields s (head_of s h) at C h.n ++ rest) ≡ refusal_number w

-- the last test of a sheet, of what its out field holds
abbrev pub out_fault : (n k : ℕ) → Count → (cs : List ℕ) (out : ℕ) → ℕ
out_fault n k c cs out = first_fault ((eqb out (cond (closes n (standing_of n c) cs k) 0 (leaves n (standing_of n c) cs)) or_else 11) ∷ [])

-- what a sheet with these counts and no fault comes to, and the standing count after it: ended, where the sheet closes the board
unfoldable pub Comes : (n k : ℕ) (before : Count) (cs : List ℕ) → Outcome → (after : Count) → Type 0
Comes n k c cs (Closed w) after =
    (closes n (standing_of n c) cs k ≡ true) × (w ≡ wins n (standing_of n c) cs)
    × (after.gone ≡ c.gone) × Kept after × (result_of n (record { count = after; winner = w }) ≡ ended n (standing_of n c) cs)
Comes n k c cs (Open a) after =
    (closes n (standing_of n c) cs k ≡ false) × (a ≡ leaves n (standing_of n c) cs) × (a ≤ n)
    × (after.gone.outs ≡ c.gone.outs + 1) × Kept after × (standing_of n after ≡ next n (standing_of n c) cs)

-- what a sheet with these counts and this fault comes to, and the place after it; or its refusal
unfoldable pub Stepped : (n k : ℕ) (before : Count) (cs : List ℕ) (fault place : ℕ) → Result Step Refusal → Type 0
Stepped n k c cs f place (Ok step) = (f ≡ 0) × (step.next ≡ place) × Comes n k c cs step.outcome step.count
Stepped n k c cs f place (Err w) = f ≡ refusal_number w

-- what the sheet at a place comes to, in the round after those of the standing count, whose C counted ballots have these products
abbrev pub SheetReads : (s : List ℕ) → Head → (before : Count) (C : ℕ) → Tally → (at : ℕ) → Result Step Refusal → Type 0
SheetReads s h c C T at =
    Stepped h.n C c (counts_at s at h.n)
    (sheet_fault s (head_of s h) at (c.gone.outs + 1) C T (due h.n C (standing_of h.n c) (counts_at s at h.n)))
    (at + sheet_length h.n)
