-- How far a round is read.
use Rattle.std.specs.Prelude.{ℕ, suc, ◌+◌, ◌≤◌, ◌<◌, ◌≡◌, List, length, Result, Ok, Err}
use Rattle.sha256.specs.Message.{sha256}
use Rattle.rules.specs.Records.{header_length, pairs_from, record_length}
use Rattle.rules.specs.Claims.{matrix_at}
use Rattle.rules.specs.Sheet as said
use Rattle.rules.specs.Check.{position, place, record_number, kind, counted_below, record_fault}
use Rattle.header.specs.declared.Head.{Head}
use Rattle.header.specs.Heads.{head_of}
use Rattle.rules.specs.declared.Refusal.{Refusal}
use Rattle.rules.specs.declared.Refused.{Refused}
use Rattle.records.specs.Passes.{Passes}
use Rattle.sheets.specs.declared.tally.Tally.{Tally}
use Rattle.sheets.specs.Tallies.{Tallied}
use Rattle.round.specs.declared.Round.{Round}
use Rattle.round.specs.declared.Walk.{Walk}

-- the next unread place is ahead of ballot k in a round, the records of the ballots before it having no fault; its record of the round before, and
-- its BA, are found by places carried beside
pub record Walked (s : List ℕ) (h : Head) (r : Round) (at : ℕ) (w : Walk) : Type 0 where
  pub few : w.k ≤ h.k
  pub here : at ≡ place s (head_of s h) r.m w.k
  pub fits : at ≤ length s
  pub numbered : w.number ≡ record_number s (head_of s h) r.m w.k
  pub first : r.m ≡ 0 → w.before ≡ 0
  pub earlier : (e : ℕ) → r.m ≡ suc e → w.before ≡ place s (head_of s h) e w.k
  pub ballot_here : w.ballot ≡ place s (head_of s h) 0 w.k
  pub ballot_fits : w.ballot ≤ length s
  pub tallied : Tallied h.setup.group.p h.n w.tally (position s (head_of s h) r.m w.k).tally
  pub counted : w.tally.ballots ≡ counted_below s (head_of s h) w.k
  pub sound : (j : ℕ) → j < w.k → record_fault sha256 s (head_of s h) r.a r.m j ≡ 0

-- ahead of the first ballot of a round
pub record Starts (h : Head) (r : Round) (w : Walk) : Type 0 where
  pub none : w.k ≡ 0
  pub numbered : w.number ≡ r.number
  pub earlier : w.before ≡ r.before
  pub ballot : w.ballot ≡ header_length
  pub no_row_lem : Tallied h.setup.group.p 8 w.tally said.no_row
  pub uncounted : w.tally.ballots ≡ 0

-- what ballot k has in round m, at a place, comes to
abbrev pub RecordPasses : (s : List ℕ) → Head → (a m k at : ℕ) → Result ℕ Refusal → Type 0
RecordPasses s h a m k at = Passes s (record_fault sha256 s (head_of s h) a m k) (at + record_length h.n (kind s (head_of s h) k) m)

-- what the ballot that is next has, at a place, comes to; refused, it has its record's number
unfoldable pub RecordReads : (s : List ℕ) → Head → Round → Walk → (at : ℕ) → Result ℕ Refused → Type 0
RecordReads s h r w at (Ok next) = RecordPasses s h r.a r.m w.k at (Ok next)
RecordReads s h r w at (Err e) = RecordPasses s h r.a r.m w.k at (Err e.refusal) × (e.record ≡ w.number)

-- the products with the first row of the record at a place, where its ballot is counted
pub record TallyAfter (s : List ℕ) (h : Head) (m kind at : ℕ) (before after : Tally) : Type 0 where
  pub row : kind ≡ 0 → (T : said.Tally) → Tallied h.setup.group.p h.n before T →
      Tallied h.setup.group.p h.n after (said.with_row T (matrix_at s h.n (pairs_from m at)))
  pub more : kind ≡ 0 → after.ballots ≡ before.ballots + 1
  pub same : (kind ≡ 0 → ⊥) → after ≡ before
