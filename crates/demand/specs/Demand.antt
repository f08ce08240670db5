-- What the third demand says of a call of `check` or `check_small`, and of a call of `write`.
use Rattle.std.specs.Prelude.{ℕ, ◌-◌, ◌≤◌, ◌<◌, ◌≡◌, true, List, length, take, drop, Result, Ok, IfOk, IsOkAnd}
use Rattle.sha256.specs.Message.{sha256}
use Rattle.rules.specs.Records.{is_audited}
use Rattle.rules.specs.Count.{plain_count}
use Rattle.rules.specs.Header.{header}
use Rattle.rules.specs.Check.{kind, check_board}
use Rattle.rules.specs.Answers.{verdict_of, order_of}
use Rattle.rules.specs.Openings.{Opens}
use Rattle.rules.specs.declared.Accepted.{Accepted}
use Rattle.rules.specs.declared.Refused.{Refused}
use Rattle.jobs.specs.Job.{Job, plain_result, board_length}
use Rattle.jobs.specs.declared.Written.{Written}
use Rattle.jobs.specs.declared.Unwritten.{Unwritten}
use Rattle.whole.specs.ThirdDemand.{counted_rankings, IsPlain, IsWritten}
use Rattle.whole.specs.Audited.{OpensAsShown}
use Rattle.whole.specs.Repeats.{DifferentY}
use Rattle.whole.specs.SmallLimits.{PastLimits}
use Rattle.jobs.specs.Write.{no_repeat, Valid}

-- an accepted board whose counted ballots' matrices open to rankings and struck rows has the plain count's rounds, counts, order and winner:
-- of the answer r to the board s
abbrev pub AcceptedIsPlain : (s : List ℕ) → Result Accepted Refused → Type 0
AcceptedIsPlain s r =
    (a : Accepted) (rankings : ℕ → List ℕ) →
    r ≡ Ok a →
    Opens s rankings a.rounds →
    IsPlain s a.rounds (take (a.rounds - 1) a.order) a.winner (plain_count (header s).n (counted_rankings s rankings))

-- "each accepted audited ballot provably opens to its shown ranking" (02, L5): of the answer r to the board s
abbrev pub AuditedAsShown : (s : List ℕ) → Result Accepted Refused → Type 0
AuditedAsShown s r =
    (a : Accepted) (k : ℕ) → r ≡ Ok a → k < (header s).K → is_audited (kind s (header s) k) ≡ true → OpensAsShown s k

-- "Within the smaller limits both give the same result on each board." (02, L12): of the answer r for the screen to the board s, wherever 23 is not due
abbrev pub AsForTheBox : (s : List ℕ) → Result Accepted Refused → Type 0
AsForTheBox s r = (PastLimits s → ⊥) → (verdict_of r ≡ check_board sha256 s) × IfOk r (λ a. a.order ≡ order_of (check_board sha256 s))

-- every board written by the rules from 1 to 1,000 rankings of 2 to 8 processes, one counted at least, in any valid group with any valid draws that no matrix
-- repeats (02, L6), is accepted with that count:
-- of the reply r to a job whose output held `before`, and then held `after`
pub record WrittenIsPlain (job : Job) (before after : List ℕ) (w : Written) : Type 0 where
  -- the reply has the board's length and the plain count's rounds, order and winner
  pub replies : (w.length ≡ board_length job) × (w.rounds ≡ (plain_result job).rounds) × (w.winner ≡ (plain_result job).winner)
  pub orders : take ((plain_result job).rounds - 1) w.order ≡ (plain_result job).order
  -- the front of the output is a board that is accepted with them, and opens to the job's rankings
  pub front : IsWritten sha256 job (take (board_length job) after) (plain_result job)
  -- and no two pairs of one of its matrices share a Y
  pub different_Y : DifferentY (take (board_length job) after) (plain_result job).rounds
  pub rest : drop (board_length job) after ≡ drop (board_length job) before

abbrev pub ValidIsWritten : (job : Job) (before after : List ℕ) → Result Written Unwritten → Type 0
ValidIsWritten job before after r = Valid sha256 job → no_repeat job ≡ true → board_length job ≤ length before → IsOkAnd r (WrittenIsPlain job before after)
