-- The third demand as one statement about whole boards, first byte to last. docs/THIRD_DEMAND.md puts it beside the demand's words.
use Rattle.std.specs.Prelude.{ℕ, ◌+◌, ◌-◌, ◌≤◌, ◌<◌, ◌≡◌, true, cond, List, length}
use Rattle.numbers.specs.Below.{sum_below}
use Rattle.rules.specs.Records.{RT, has_mark, is_counted, records_of}
use Rattle.rules.specs.Count.{table, table_where, Result, plain_count}
use Rattle.rules.specs.Header.{header}
use Rattle.rules.specs.Check.{accepted, place, kind, counted, out_field, count_field, counts, check_board}
use Rattle.rules.specs.Openings.{Opens}
use Rattle.jobs.specs.Job.{Job, header_of, ranking_of, kind_of, plain_result, board_length}
use Rattle.jobs.specs.Board.{board}
use Rattle.jobs.specs.Write.{no_repeat, Valid, board_written, write_outcome}

-- "the number of RT on the board", of its records in so many rounds: those that ballots have, and the sheets
abbrev pub sheets_on : (s : List ℕ) (rounds : ℕ) → ℕ
sheets_on s rounds =
    sum_below rounds (λ m.
    sum_below (header s).K (λ k. cond (has_mark s (place s (header s) m k) RT) (records_of (kind s (header s) k) m) 0)
    + cond (has_mark s (place s (header s) m (header s).K) RT) 1 0)

-- the rankings of the counted ballots, in ballot order: "The plain result now concerns counted rankings" (02, L5)
abbrev pub counted_rankings : (s : List ℕ) (rankings : ℕ → List ℕ) → List (List ℕ)
counted_rankings s rankings = table_where (header s).K (λ k. is_counted (kind s (header s) k)) rankings

-- "Equal to these are the number of RT on the board, the n counts on the m-th RT for each round m, the out fields ahead of the closing sheet
-- in their order, and the rounds, order and winner in the checker's answer"; "each sheet's counts sum to K";
-- 02, L5: "counts, their sum on each sheet, majority .. are over counted ballots"
pub record IsPlain (s : List ℕ) (rounds : ℕ) (order : List ℕ) (winner : ℕ) (plain : Result) : Type 0 where
  pub same_rounds : rounds ≡ plain.rounds
  pub same_order : order ≡ plain.order
  pub same_winner : winner ≡ plain.winner
  pub same_sheets : sheets_on s rounds ≡ plain.rounds
  pub same_counts : table rounds (counts s (header s)) ≡ plain.counts
  pub same_outs : table (rounds - 1) (out_field s (header s)) ≡ plain.order
  -- the records of the rounds are all that the board holds
  pub whole : length s ≡ place s (header s) rounds 0
  pub sums : (m : ℕ) → m < rounds → sum_below (header s).n (count_field s (header s) m) ≡ counted s (header s)

module _ (hash : List ℕ → List ℕ) where
  -- the board of a job is accepted with the plain count's result, has the job's kinds, opens to the job's rankings and says on every sheet
  -- what the plain count says
  pub record IsAccepted (job : Job) (s : List ℕ) (plain : Result) : Type 0 where
    pub heads : header s ≡ header_of hash job
    pub kinds : (k : ℕ) → k < job.K → kind s (header s) k ≡ kind_of job k
    pub accepts : check_board hash s ≡ accepted plain.rounds plain.order plain.winner
    pub opens : Opens s (ranking_of job) plain.rounds
    pub is_plain : IsPlain s plain.rounds plain.order plain.winner plain
    pub measured : length s ≡ board_length job

  -- and it is what the writer writes where the output has room
  pub record IsWritten (job : Job) (s : List ℕ) (plain : Result) : Type 0 where
    pub is_accepted : IsAccepted job s plain
    pub replies : (room : ℕ) → length s ≤ room → write_outcome hash job room ≡ board_written (length s) plain.rounds plain.order plain.winner

  pub record ThirdDemand : Type 0 where
    -- an accepted board whose counted ballots' matrices open to rankings and struck rows has the plain count's rounds, counts, order and winner
    pub accepted_boards : (s : List ℕ) (rounds : ℕ) (order : List ℕ) (winner : ℕ) (rankings : ℕ → List ℕ) →
        check_board hash s ≡ accepted rounds order winner →
        Opens s rankings rounds →
        IsPlain s rounds order winner (plain_count (header s).n (counted_rankings s rankings))
    -- every board that the rules fix for 1 to 1,000 rankings of 2 to 8 processes, each counted or audited and one counted at least, in any valid
    -- group with any valid draws, is accepted with that count, whoever made it
    pub fixed_boards : (job : Job) → Valid hash job → IsAccepted job (board hash job) (plain_result job)
    -- and where no matrix repeats an x the writer writes it: "the assurance that written boards are accepted excludes such groups and repeats" (02, L6)
    pub written_boards : (job : Job) → Valid hash job → no_repeat job ≡ true → IsWritten job (board hash job) (plain_result job)
