use Prim.Native.Nat.{◌-◌}
use mathlib.Core.Path.{◌≡◌, ap, ◌∙◌}
use native.Mathlib.Omega.{arith}
use Rattle.jobs.specs.Job.{record_draws}
use Rattle.boards.proofs.records.draws_before.Goals as goal

pub returns-else-m-eq0 : goal.returns-else-m-eq0
returns-else-m-eq0 c =
    let f = c.args in
    let w = c.record_draws.ensures in
    (λ j e. let p : f.m - 1 ≡ j = omega arith in w.0 ∙ ap (record_draws f.n f.kind) p, w.1)
