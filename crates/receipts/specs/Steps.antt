-- What the functions within rely on, and what they tell.
use Rattle.std.specs.Prelude.{ℕ, zero, suc, ◌+◌, ◌≤◌, ◌≡◌, List, length, Result, Ok, Err}
use Rattle.std.proofs.Math.Option.{none, some}
use Rattle.sha256.specs.Message.{sha256}
use Rattle.rules.specs.Bytes.{part}
use Rattle.rules.specs.Records.{header_length, kind_at, ballot_length}
use Rattle.rules.specs.Tests.{fault_below}
use Rattle.rules.specs.Header.{header}
use Rattle.rules.specs.Check.{record_number}
use Rattle.rules.specs.Receipts.{ballot_record, frame_fault}
use Rattle.rules.specs.Answers.{refusal_number}
use Rattle.rules.specs.declared.Refusal.{Refusal}
use Rattle.rules.specs.declared.Refused.{Refused}
use Rattle.frames.specs.Framed.{BallotFramed}
use Rattle.digests.specs.Order.{entered}
use Rattle.receipts.specs.declared.Hashed.{Hashed}

-- the numbers after the first k ballots, one after another
unfoldable pub numbers_after : (s digests : List ℕ) (k : ℕ) (numbers : List ℕ) → List ℕ
numbers_after s digests zero numbers = numbers
numbers_after s digests (suc k) numbers = entered digests (sha256 (ballot_record s k)) (suc k) (numbers_after s digests k numbers)

-- what is read at a place, where a ballot's record with a number is due: its frame is sound, and the place after it and its digest are known; or
-- what its frame is refused for
unfoldable pub Hashes : (s : List ℕ) (at n due : ℕ) → Result Hashed Refusal → Type 0
Hashes s at n due (Ok r) =
    let size = ballot_length n (kind_at s at) in BallotFramed s at n due (Ok tt) × (r.next ≡ at + size) × (r.digest ≡ sha256 (part s at size))
Hashes s at n due (Err w) = BallotFramed s at n due (Err w)

-- what is known of a board whose header was read: n and K
pub record Headed (s : List ℕ) (n K : ℕ) : Type 0 where
  pub processes : n ≡ (header s).n
  pub ballots : K ≡ (header s).K
  pub small : n ≤ 8
  pub few : K ≤ 1000
  pub long : header_length ≤ length s

-- the walk of the ballots: no frame has a fault, and each ballot is entered; or the first that has one, and those before it are entered
unfoldable pub Walked : (s digests before after : List ℕ) → Result (Unit {0}) Refused → Type 0
Walked s digests before after (Ok _) = (fault_below (header s).K (frame_fault s) ≡ none) × (after ≡ numbers_after s digests (header s).K before)
Walked s digests before after (Err e) =
    (k : ℕ) × (fault_below (header s).K (frame_fault s) ≡ some (k, refusal_number e.refusal)) × (e.record ≡ record_number s (header s) 0 k)
    × (after ≡ numbers_after s digests k before)
