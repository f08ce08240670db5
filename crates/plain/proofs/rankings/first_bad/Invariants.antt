use mathlib.Core.Path.{◌≡◌}
use Rattle.jobs.specs.Job.{Job}
use Rattle.jobs.specs.Write.{first_bad}
use Rattle.plain.proofs.rankings.first_bad.Given as goal

abbrev pub invariant-loop-b : goal.invariant-loop-b
invariant-loop-b l = (job : Job) → job.n ≡ l.n → job.rankings ≡ l.rankings → first_bad job l.b ≡ 0
