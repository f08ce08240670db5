-- A board's verdict, and the count that goes with it.
use Rattle.std.specs.Prelude.{ℕ, zero, suc, ◌≤◌, ◌<◌, ◌≡◌, Bool, false, cond, not, ◌&&◌, List, eqb, IfOk}
use Rattle.std.proofs.Math.Option.{none, some}
use Rattle.rules.specs.Count.{Standing, start, next, leaves, closes, table}
use Rattle.rules.specs.Tests.{fault_below}
use Rattle.rules.specs.Header.{Header, header, header_fault}
use Rattle.rules.specs.Check.{Verdict, accepted, refused, counts, counted, due, record_fault, round_sheet_fault}
use Rattle.rules.specs.Answers.{verdict_of}
use Rattle.rules.specs.declared.Model.{Model}
use Rattle.count.specs.declared.Count.{Count}
use Rattle.count.specs.State.{standing_of, result_of, Kept}
use Rattle.checker.specs.declared.Counted.{Counted}

-- ---- the round in which the check of a board stops, as check_from goes from round to round (rules/specs/Check.antt)
module _ (hash : List ℕ → List ℕ) (s : List ℕ) where
  module _ (h : Header) where
    -- no record of the round breaks a rule, and its sheet does not close the board
    unfoldable pub goes_on : Standing → (m a : ℕ) → Bool
    goes_on st m a =
        elim (fault_below h.K (record_fault hash s h a m)) [
          | some w ↦ false
          | none ↦ eqb (round_sheet_fault s h m (due h.n (counted s h) st (counts s h m))) 0 && not (closes h.n st (counts s h m) (counted s h))
        ]

    -- the standing count that this round was given
    unfoldable pub stops_from : (fuel : ℕ) → Standing → (m a : ℕ) → Standing
    stops_from zero st m a = st
    stops_from (suc fuel) st m a = cond (goes_on st m a) (stops_from fuel (next h.n st (counts s h m)) (suc m) (leaves h.n st (counts s h m))) st

  -- on a board of a model: the count at the start, where its header is refused
  unfoldable pub stops_at : Model → Standing
  stops_at model = cond (eqb (header_fault hash model s) 0) (stops_from (header s) (header s).n start 0 0) start

-- the count is the result of a board that was accepted, with the verdict's winner: its rounds and order, and the counts on the sheet of each round
pub record Ends (s : List ℕ) (h : Header) (rounds : ℕ) (order : List ℕ) (winner n : ℕ) (c : Count) : Type 0 where
  pub same_n : n ≡ h.n
  pub high : n ≤ 8
  pub few : c.gone.outs < n
  pub kept : Kept c
  pub result : result_of n (record { count = c; winner = winner }) ≡ record { rounds = rounds; counts = table rounds (counts s h); order = order; winner = winner }

-- where it is refused, the count is the standing count of the round that was refused
abbrev pub CountOf : (s : List ℕ) (h : Header) → Verdict → Standing → (n : ℕ) → Count → Type 0
CountOf s h (accepted rounds order winner) st n c = Ends s h rounds order winner n c
CountOf s h (refused refusal number) st n c = (n ≡ 0) × Kept c × (standing_of h.n c ≡ st)

-- the verdict, with the count's order, and the count; st: the standing count of the round in which the check stopped
pub record Verified (s : List ℕ) (h : Header) (v : Verdict) (st : Standing) (r : Counted) : Type 0 where
  pub verdict : verdict_of r.verdict ≡ v
  pub ordered : IfOk r.verdict (λ a. a.order ≡ r.count.gone.order)
  pub counted : CountOf s h v st r.n r.count
