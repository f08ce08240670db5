-- Tests of a record in the table's order, each with the refusal where it fails.
use Rattle.std.specs.Prelude.{ℕ, zero, suc, ◌+◌, Bool, cond, List, [], ◌∷◌, leb, eqb, length}
use Rattle.std.proofs.Math.Option.{Option, none, some}
use Rattle.rules.specs.Records.{has_mark}

-- a test, and the refusal where it fails
pub record Test : Type 0 where
  pub holds : Bool
  pub refusal : ℕ

infix 5 ◌or_else◌
abbrev pub ◌or_else◌ : Bool → ℕ → Test
b or_else r = record { holds = b; refusal = r }

-- the refusal of the first test that fails; 0 where all hold
unfoldable pub first_fault : List Test → ℕ
first_fault [] = 0
first_fault (t ∷ ts) = cond t.holds (first_fault ts) t.refusal

-- the first number below k that has a fault, and the fault
unfoldable pub fault_below : (k : ℕ) → (ℕ → ℕ) → Option (ℕ × ℕ)
fault_below zero f = none
fault_below (suc k) f = elim (fault_below k f) [ some w ↦ some w | none ↦ cond (eqb (f k) 0) none (some (k, f k)) ]

-- the frame of a BA, SH or RT record at a place: "bytes left are fewer than its length", "mark differs from the one due",
-- "number or round not the one due"
abbrev pub frame : (s : List ℕ) (at size : ℕ) (mark : List ℕ) (shown due : ℕ) → List Test
frame s at size mark shown due = (leb (at + size) (length s) or_else 1) ∷ (has_mark s at mark or_else 2) ∷ (eqb shown due or_else 6) ∷ []
