-- The job of the rules that a call is given.
use Rattle.std.specs.Prelude.{ℕ, List}
use Rattle.jobs.specs.Job as J
use Rattle.validity.specs.declared.Job.{Job}

abbrev pub job_of : Job → (label rankings kinds draws : List ℕ) → J.Job
job_of j label rankings kinds draws =
    record { n = j.n; K = j.k; p = j.p; q = j.q; g0 = j.g0.0; counter = j.counter; label = label; rankings = rankings; kinds = kinds; draws = draws }
