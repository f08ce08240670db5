-- The number and the values of each case of the writer's answer.
use Rattle.std.specs.Prelude.{ℕ, ◌-◌, List, take, replicate, Result, Ok, Err}
use Rattle.rules.specs.Answers.{refusal_number, with_zeros}
use Rattle.jobs.specs.Write.{Outcome, board_written, job_refused}
use Rattle.jobs.specs.declared.Written.{Written}
use Rattle.jobs.specs.declared.Unwritten.{Unwritten}

-- of the array of 8 the first rounds - 1 are the order
abbrev pub outcome_of : Result Written Unwritten → Outcome
outcome_of (Ok w) = board_written w.length w.rounds (take (w.rounds - 1) w.order) w.winner
outcome_of (Err u) = job_refused (refusal_number u.refusal) u.ranking

-- what the array holds: the order of going out, then zeros; zeros alone where the job is refused
abbrev pub order_written : Outcome → List ℕ
order_written (board_written length rounds order winner) = with_zeros order
order_written (job_refused number ranking) = replicate 8 0
