-- Draws that repeat (02, L6): when 20 is due, which groups are too small for any job, and what the rule buys.
use Rattle.std.specs.Prelude.{ℕ, ◌+◌, ◌*◌, ◌-◌, ◌<◌, ◌≡◌, ◌↔◌, true, List, [], ◌∷◌, length}
use Rattle.rules.specs.Count.{member}
use Rattle.rules.specs.Header.{header}
use Rattle.rules.specs.Check.{matrix}
use Rattle.jobs.specs.Job.{Job, record_secrets, kind_of, draw, plain_result}
use Rattle.jobs.specs.Board.{job_draws, board}
use Rattle.jobs.specs.Write.{no_repeat, Valid, job_fault, job_refused, write_outcome, write_output}
use Rattle.whole.specs.SecondDemand.{HasRecord}

-- two x of the matrix that a ballot has in a round of the board are equal; rounds, ballots and draws from 0
pub record Repeat (job : Job) : Type 0 where
  pub m : ℕ
  pub k : ℕ
  pub i : ℕ
  pub j : ℕ
  pub in_rounds : m < (plain_result job).rounds
  pub in_ballots : k < job.K
  pub earlier : i < j
  pub in_matrix : j < record_secrets job.n (kind_of job k) m
  pub equal : draw job (job_draws job m k + i) ≡ draw job (job_draws job m k + j)

-- no two pairs of a matrix on a board of so many rounds share a Y: those of every BA, audited ones too, and of every SH
abbrev pub DifferentY : (s : List ℕ) (rounds : ℕ) → Type 0
DifferentY s rounds =
    (m k : ℕ) → m < rounds → k < (header s).K → HasRecord s (header s) m k →
    (i j i' j' : ℕ) → i < (header s).n - m → j < (header s).n → i' < (header s).n - m → j' < (header s).n →
    (matrix s (header s) m k).y i j ≡ (matrix s (header s) m k).y i' j' → (i ≡ i') × (j ≡ j')

pub record Repeats (hash : List ℕ → List ℕ) : Type 0 where
  -- "It refuses with 20 a repeat, after 14 and before 15.": just where neither 14 nor a refusal before it is due and a matrix has an x twice
  pub due_iff : (job : Job) (room : ℕ) → (job_fault hash job room ≡ 20) ↔ (Valid hash job × Repeat job)
  -- "With q−1 below the matrix's size every job is turned down": with 20 or an earlier refusal, whatever the draws and the output
  pub turned_down : (job : Job) (out : List ℕ) → job.q - 1 < job.n * job.n →
      (number ranking : ℕ) × (member number (3 ∷ 4 ∷ 5 ∷ 13 ∷ 17 ∷ 19 ∷ 14 ∷ 20 ∷ []) ≡ true)
      × (write_outcome hash job (length out) ≡ job_refused number ranking) × (write_output hash job out ≡ out)
  -- "equal x betray equal entries": on a written board no two pairs of a matrix share a Y, since g1 has order q
  pub different_Y : (job : Job) → Valid hash job → no_repeat job ≡ true → DifferentY (board hash job) (plain_result job).rounds
