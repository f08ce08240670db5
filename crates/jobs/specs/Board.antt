-- The board that a job fixes, byte for byte: its records, ballot by ballot and round by round.
use Rattle.std.specs.Prelude.{ℕ, zero, suc, ◌+◌, ◌-◌, cond, List, [], ◌∷◌, ◌++◌}
use Rattle.numbers.specs.Below.{concat_below}
use Rattle.group.specs.Elements.{Parameters}
use Rattle.rules.specs.Bytes.{bytes2, bytes4}
use Rattle.rules.specs.Records.{HF, is_counted}
use Rattle.rules.specs.Claims.{Matrix}
use Rattle.rules.specs.Count.{Standing, start, next, leaves, closes, counts_of}
use Rattle.jobs.specs.Job.{Job, group_of, ranking_of, kind_of, counted_below, counted_rankings, rows_of, remaining, row_of, draws_at}
use Rattle.jobs.specs.Records.{matrix_of, ballot_bytes, shift_bytes, sheet_bytes}

-- where the draws of ballot k's record in round m start
abbrev pub job_draws : Job → (m k : ℕ) → ℕ
job_draws job m k = draws_at job.n (kind_of job) job.K m k

module _ (job : Job) (g : Parameters) where
  -- ballot k's matrix in round m, gone having gone out
  abbrev pub job_matrix : (gone : List ℕ) (m k : ℕ) → Matrix
  job_matrix gone m k = matrix_of g job.n (rows_of job gone k) job.draws (job_draws job m k)

  -- the sheet of round m
  abbrev pub job_sheet : (m out : ℕ) (counts : List ℕ) → List ℕ
  job_sheet m out counts = sheet_bytes g.q job.n job.K (kind_of job) job.draws (job_draws job m) m out counts

module _ (hash : List ℕ → List ℕ) (job : Job) (g : Parameters) where
  abbrev pub job_ballot : (k : ℕ) → List ℕ
  job_ballot k = ballot_bytes hash job.label g job.n (k + 1) (kind_of job k) (rows_of job [] k) job.draws (job_draws job 0 k)

  -- of round m + 1: before are those gone out before round m, a (from 1) went out in it
  abbrev pub job_shift : (before : List ℕ) (a m k : ℕ) → List ℕ
  job_shift before a m k =
      shift_bytes hash job.label g job.n (job.n - suc m) (suc m + 1) (k + 1) (rows_of job before k) (rows_of job (before ++ (a ∷ [])) k)
      (row_of a (remaining before (ranking_of job k))) (a - 1) job.draws (job_draws job m k) (job_draws job (suc m) k)

  -- what ballot k has in round m; 02, L5: an audited ballot "has no SH (the others keep their numbers)"
  unfoldable pub record_bytes : (before : List ℕ) (a m k : ℕ) → List ℕ
  record_bytes before a zero k = job_ballot k
  record_bytes before a (suc m) k = cond (is_counted (kind_of job k)) (job_shift before a m k) []

  -- the ballots or shifts of round m, its sheet, and the rounds after it; before are those gone out before the last, a the last
  unfoldable pub rounds_from : (fuel : ℕ) → Standing → (m : ℕ) (before : List ℕ) (a : ℕ) → List ℕ
  rounds_from zero st m before a = []
  rounds_from (suc fuel) st m before a =
      let counts = counts_of job.n (counted_rankings job) st.gone in
      concat_below job.K (record_bytes before a m)
      ++ cond (closes job.n st counts (counted_below job job.K))
      (job_sheet job g m 0 counts)
      (job_sheet job g m (leaves job.n st counts) counts
      ++ rounds_from fuel (next job.n st counts) (suc m) st.gone (leaves job.n st counts))

  -- "n 1, K 2, p 4, q 4, g0 4, counter 1, g1 4, label 32"
  abbrev pub header_bytes : List ℕ
  header_bytes =
      HF ++ (job.n ∷ []) ++ bytes2 job.K ++ bytes4 g.p ++ bytes4 g.q ++ bytes4 g.g0 ++ (job.counter ∷ []) ++ bytes4 g.g1 ++ job.label

  unfoldable pub board_bytes : List ℕ
  board_bytes = header_bytes ++ rounds_from job.n start 0 [] 0

unfoldable pub board : (hash : List ℕ → List ℕ) → Job → List ℕ
unfolding board_bytes
board hash job = board_bytes hash job (group_of hash job)
