-- What the tests of a record's frame tell.
use Rattle.std.specs.Prelude.{ℕ, ◌+◌, ◌≤◌, ◌≡◌, true, List, [], ◌∷◌, ◌++◌, eqb, length, Result, Ok, Err}
use Rattle.rules.specs.Bytes.{number2}
use Rattle.rules.specs.Records.{BA, has_mark, kind_at, ballot_length}
use Rattle.rules.specs.Ballot.{kind_test}
use Rattle.rules.specs.Tests.{Test, first_fault, frame}
use Rattle.rules.specs.Answers.{refusal_number}
use Rattle.rules.specs.declared.Refusal.{Refusal}

-- the frame: size bytes at a place, a mark, and a number or round shown that is the one due. Refused, it decides whatever the rest is.
unfoldable pub Framed : (s : List ℕ) (at size : ℕ) (mark : List ℕ) (shown due : ℕ) → Result (Unit {0}) Refusal → Type 0
Framed s at size mark shown due (Ok _) = (at + size ≤ length s) × (has_mark s at mark ≡ true) × (eqb shown due ≡ true)
Framed s at size mark shown due (Err w) = (rest : List Test) → first_fault (frame s at size mark shown due ++ rest) ≡ refusal_number w

-- that of a BA record, with its kind
unfoldable pub BallotFramed : (s : List ℕ) (at n due : ℕ) → Result (Unit {0}) Refusal → Type 0
BallotFramed s at n due (Ok _) =
    Framed s at (ballot_length n (kind_at s at)) BA (number2 s (at + 2)) due (Ok tt) × ((kind_test s at).holds ≡ true)
BallotFramed s at n due (Err w) =
    (rest : List Test) → first_fault (frame s at (ballot_length n (kind_at s at)) BA (number2 s (at + 2)) due ++ (kind_test s at ∷ []) ++ rest) ≡ refusal_number w

-- its length and mark alone
unfoldable pub Begun : (s : List ℕ) (at size : ℕ) (mark : List ℕ) → Result (Unit {0}) Refusal → Type 0
Begun s at size mark (Ok _) = (at + size ≤ length s) × (has_mark s at mark ≡ true)
Begun s at size mark (Err w) = (shown due : ℕ) → Framed s at size mark shown due (Err w)
