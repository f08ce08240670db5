-- The screen in the council room (02, L12): when 23 is due, and that the screen's entry to the checker answers every other board as the box's own does.
-- The second and the third demand of that entry follow.
use Rattle.std.specs.Prelude.{ℕ, ◌≤◌, ◌<◌, ◌≡◌, ◌↔◌, ◌⊎◌, true, List, length}
use Rattle.rules.specs.Records.{HF, has_mark, header_length}
use Rattle.rules.specs.Count.{plain_count}
use Rattle.rules.specs.Header.{header, header_fault}
use Rattle.rules.specs.Check.{accepted, refused, check_board, check_small}
use Rattle.rules.specs.Openings.{Opens}
use Rattle.rules.specs.Receipts.{find_refused, find_outcome}
use Rattle.rules.specs.Notice.{text_refused, text_outcome}
use Rattle.rules.specs.declared.Model.{Model}
use Rattle.jobs.specs.Job.{Job, plain_result}
use Rattle.jobs.specs.Board.{board}
use Rattle.jobs.specs.Write.{Valid}
use Rattle.whole.specs.SecondDemand.{EveryRuleHolds, FirstBroken}
use Rattle.whole.specs.ThirdDemand.{counted_rankings, IsPlain, IsAccepted}

-- "n ≤ 5 and K ≤ 200"
pub record Within (n K : ℕ) : Type 0 where
  pub shown : n ≤ 5
  pub stored : K ≤ 200

-- past that
abbrev pub Past : (n K : ℕ) → Type 0
Past n K = (5 < n) ⊎ (200 < K)

-- "a header past 5 or 200 but within 3": 1, 2 and 3 are not due to it
pub record PastLimits (s : List ℕ) : Type 0 where
  pub fits : header_length ≤ length s
  pub marked : has_mark s 0 HF ≡ true
  pub low : 2 ≤ (header s).n
  pub high : (header s).n ≤ 8
  pub some : 1 ≤ (header s).K
  pub few : (header s).K ≤ 1000
  pub past : Past (header s).n (header s).K

module _ (hash : List ℕ → List ℕ) where
  pub record SmallLimits : Type 0 where
    -- "It refuses with 23 a header past 5 or 200 but within 3, right after 3."; no record but the header is concerned
    pub due_iff : (s : List ℕ) (number : ℕ) → (check_small hash s ≡ refused 23 number) ↔ (PastLimits s × (number ≡ 0))
    -- every other board has the same result from both
    pub same : (s : List ℕ) → (PastLimits s → ⊥) → check_small hash s ≡ check_board hash s
    pub either : (s : List ℕ) → PastLimits s ⊎ (PastLimits s → ⊥)
    -- "Within the smaller limits both give the same result on each board."
    pub within : (s : List ℕ) → Within (header s).n (header s).K → check_small hash s ≡ check_board hash s
    -- and wherever 1, 2 or 3 is due to the header
    pub refused_before : (s : List ℕ) (refusal : ℕ) → refusal ≤ 3 → (check_small hash s ≡ refused refusal 0) ↔ (check_board hash s ≡ refused refusal 0)
    -- 23 is the screen's alone: of the box's own entry, the search for receipts and the text it is no refusal
    pub not_checked : (s : List ℕ) (number : ℕ) → check_board hash s ≡ refused 23 number → ⊥
    pub not_found : (s digests : List ℕ) (room number : ℕ) → find_outcome hash s digests room ≡ find_refused 23 number → ⊥
    pub not_told : (s lent : List ℕ) (room number : ℕ) → text_outcome hash s lent room ≡ text_refused 23 number → ⊥
    -- nor is it due to a header of any kind of boards that are shown and stored as far as 3 lets them pass
    pub not_due : (model : Model) (s : List ℕ) → model.most ≤ model.shows → model.ballots ≤ model.stores → header_fault hash model s ≡ 23 → ⊥

  -- the second and the third demand of the screen's entry
  pub record SmallDemands : Type 0 where
    -- what it accepts the box accepts, with the same rounds, order and winner: so all that is proved of accepted boards holds
    pub accepted_too : (s : List ℕ) (rounds : ℕ) (order : List ℕ) (winner : ℕ) →
        (check_small hash s ≡ accepted rounds order winner) ↔ ((check_board hash s ≡ accepted rounds order winner) × Within (header s).n (header s).K)
    -- accepted if and only if every rule of 01's table, every proof equation and every tally equation holds, and 23 is not due
    pub accepted_iff : (s : List ℕ) (rounds : ℕ) (order : List ℕ) (winner : ℕ) →
        (check_small hash s ≡ accepted rounds order winner) ↔ (EveryRuleHolds hash s rounds order winner × Within (header s).n (header s).K)
    -- else the first broken rule is named
    pub refused_iff : (s : List ℕ) (refusal number : ℕ) →
        (check_small hash s ≡ refused refusal number)
        ↔ ((PastLimits s × (refusal ≡ 23) × (number ≡ 0)) ⊎ ((PastLimits s → ⊥) × FirstBroken hash s refusal number))
    -- an accepted board whose counted ballots' matrices open to rankings and struck rows has the plain count's rounds, counts, order and winner
    pub accepted_boards : (s : List ℕ) (rounds : ℕ) (order : List ℕ) (winner : ℕ) (rankings : ℕ → List ℕ) →
        check_small hash s ≡ accepted rounds order winner →
        Opens s rankings rounds →
        IsPlain s rounds order winner (plain_count (header s).n (counted_rankings s rankings))
    -- every board that the rules fix for 1 to 200 rankings of 2 to 5 processes is accepted with that count, and every larger one is refused with 23
    pub fixed_boards : (job : Job) → Valid hash job → Within job.n job.K →
        IsAccepted hash job (board hash job) (plain_result job)
        × (check_small hash (board hash job) ≡ accepted (plain_result job).rounds (plain_result job).order (plain_result job).winner)
    pub larger_boards : (job : Job) → Valid hash job → Past job.n job.K → check_small hash (board hash job) ≡ refused 23 0
