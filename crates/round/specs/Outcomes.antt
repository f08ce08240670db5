-- What the records of a round tell, and what the round comes to.
use Rattle.std.specs.Prelude.{ℕ, suc, ◌+◌, ◌≤◌, ◌<◌, ◌≡◌, false, List, length, Result, Ok, Err}
use Rattle.std.proofs.Math.Option.{none, some}
use Rattle.sha256.specs.Message.{sha256}
use Rattle.rules.specs.Count.{closes, leaves, next, ended}
use Rattle.rules.specs.Tests.{fault_below}
use Rattle.rules.specs.Check.{Verdict, accepted, refused, position, place, record_number, round_verdict, counts, counted, record_fault}
use Rattle.rules.specs.Answers.{refusal_number}
use Rattle.count.specs.declared.Count.{Count}
use Rattle.count.specs.State.{standing_of, result_of, Kept}
use Rattle.rules.specs.declared.Refused.{Refused}
use Rattle.header.specs.declared.Head.{Head}
use Rattle.header.specs.Heads.{head_of}
use Rattle.sheets.specs.Tallies.{Tallied}
use Rattle.round.specs.declared.RecordsRead.{RecordsRead}
use Rattle.round.specs.declared.RoundOutcome.{RoundOutcome}
use Rattle.round.specs.declared.RoundOutcome.TheVariants.{Open, Closed}
use Rattle.round.specs.declared.RoundRead.{RoundRead}

module _ (s : List ℕ) (h : Head) (a m : ℕ) where
  -- the ballots' records: none has a fault, the sheet is next, and the products are those of the counted ballots; or the first that has one, its
  -- fault and its number
  unfoldable pub RecordsReads : Result RecordsRead Refused → Type 0
  RecordsReads (Ok r) =
      (fault_below h.k (record_fault sha256 s (head_of s h) a m) ≡ none) × (r.next ≡ place s (head_of s h) m h.k) × (r.next ≤ length s)
      × (r.number ≡ record_number s (head_of s h) m h.k) × Tallied h.setup.group.p h.n r.tally (position s (head_of s h) m h.k).tally
      × (r.tally.ballots ≡ counted s (head_of s h))
  RecordsReads (Err e) =
      (k : ℕ) × (k < h.k) × (fault_below h.k (record_fault sha256 s (head_of s h) a m) ≡ some (k, refusal_number e.refusal))
      × (e.record ≡ record_number s (head_of s h) m k)

-- the round that is not refused: whatever comes after it, who goes out, the next standing count and where the next round begins; or its own
-- verdict, and the count ended
unfoldable pub RoundComes : (s : List ℕ) → Head → (before : Count) (m a : ℕ) → RoundOutcome → (handed : Count) → Type 0
RoundComes s h before m a (Open out at number) handed =
    ((after : Verdict) → round_verdict sha256 s (head_of s h) (standing_of h.n before) m a after ≡ after)
    × (closes h.n (standing_of h.n before) (counts s (head_of s h) m) (counted s (head_of s h)) ≡ false)
    × (at ≡ place s (head_of s h) (suc m) 0) × (at ≤ length s) × (number ≡ record_number s (head_of s h) (suc m) 0)
    × (out ≡ leaves h.n (standing_of h.n before) (counts s (head_of s h) m)) × (out ≤ h.n)
    × (handed.gone.outs ≡ before.gone.outs + 1) × Kept handed
    × (standing_of h.n handed ≡ next h.n (standing_of h.n before) (counts s (head_of s h) m))
RoundComes s h before m a (Closed winner) handed =
    ((after : Verdict) → round_verdict sha256 s (head_of s h) (standing_of h.n before) m a after ≡ accepted (m + 1) (standing_of h.n before).gone winner)
    × (handed.gone ≡ before.gone) × Kept handed
    × (result_of h.n (record { count = handed; winner = winner }) ≡ ended h.n (standing_of h.n before) (counts s (head_of s h) m))

-- it, or the round's own verdict
unfoldable pub Rounded : (s : List ℕ) → Head → (before : Count) (m a : ℕ) → Result RoundRead Refused → Type 0
Rounded s h before m a (Ok r) = RoundComes s h before m a r.outcome r.count
Rounded s h before m a (Err e) =
    (after : Verdict) → round_verdict sha256 s (head_of s h) (standing_of h.n before) m a after ≡ refused (refusal_number e.refusal) e.record
