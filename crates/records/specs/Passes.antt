-- What the tests of a BA or SH record tell.
use Rattle.std.specs.Prelude.{ℕ, ◌≤◌, ◌≡◌, List, length, Result, Ok, Err}
use Rattle.rules.specs.declared.Refusal.{Refusal}
use Rattle.rules.specs.Answers.{refusal_number}

-- the fault of a record: none, and the place after it is on the board; or the refusal
unfoldable pub Passes : (s : List ℕ) (fault next : ℕ) → Result ℕ Refusal → Type 0
Passes s fault next (Ok at) = (fault ≡ 0) × (at ≡ next) × (next ≤ length s)
Passes s fault next (Err w) = fault ≡ refusal_number w
