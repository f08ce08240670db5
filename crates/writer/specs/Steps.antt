-- What the writer's steps come to.
use Rattle.std.specs.Prelude.{◌≤◌, ◌≡◌}
use Rattle.jobs.specs.Job.{Job, plain_result, needed, board_length}
use Rattle.count.specs.State.{result_of, Kept}
use Rattle.count.specs.declared.Ended.{Ended}
use Rattle.plain.specs.declared.rounds.Measure.{Measure}

-- the count and the measure of a job
pub record Measured (job : Job) (e : Ended) (m : Measure) : Type 0 where
  pub counted : result_of job.n e ≡ plain_result job
  pub kept : Kept e.count
  pub needed : m.needed ≡ needed job
  pub length : m.length ≡ board_length job
  pub small : m.needed ≤ 10000000
