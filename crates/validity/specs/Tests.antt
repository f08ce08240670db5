-- What the tests of a job tell.
use Rattle.std.specs.Prelude.{ℕ, ◌≡◌, List, length, Result, Ok, Err}
use Rattle.sha256.specs.Message.{sha256}
use Rattle.group.specs.Elements.{parameters_of}
use Rattle.rules.specs.Answers.{refusal_number}
use Rattle.jobs.specs.Job.{Job, group_of}
use Rattle.jobs.specs.Write.{job_refused, write_outcome, write_output, Passed}
use Rattle.group.specs.declared.Group.{Group}
use Rattle.jobs.specs.declared.Unwritten.{Unwritten}

-- the job is refused with a number and which, and the output stays as it is
pub record Stops (job : Job) (out : List ℕ) (number ranking : ℕ) : Type 0 where
  pub outcome : write_outcome sha256 job (length out) ≡ job_refused number ranking
  pub output : write_output sha256 job out ≡ out

-- what the tests up to the kinds tell: the job's group, or the refusal, whatever the output
unfoldable pub JobTested : Job → Result Group Unwritten → Type 0
JobTested job (Ok g) = Passed sha256 job × (parameters_of g ≡ group_of sha256 job)
JobTested job (Err u) = (out : List ℕ) → Stops job out (refusal_number u.refusal) u.ranking
