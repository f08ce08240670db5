use Prim.Native.Nat.{ℕ, suc}
use mathlib.Core.Path.{sym, ap, ◌∙◌}
use mathlib.Core.List.{List, ◌++◌}
use native.Mathlib.Omega.{arith}
use lib.ListN.{length-take, length-drop}
use Rattle.sha256.specs.Message.{sha256}
use Rattle.jobs.specs.Job as J
use Rattle.jobs.specs.Job.{kind_of}
use Rattle.output.specs.Written.{written}
use Rattle.output.proofs.Laws.{more}
use Rattle.boards.specs.Parts.{board_job, head_group, plan_records}
use Rattle.jobs.proofs.Draws.{columns_within, draws_mono}
use Rattle.boards.proofs.RoundPlans.{length_records, from_round}
use Rattle.count.specs.State.{list_of}
use Rattle.boards.proofs.rounds.write_round.Goals.{Start}
use Rattle.boards.proofs.rounds.write_round.Goals as goal

abbrev job_at : (s : goal.Start) → J.Job
job_at s = board_job s.args.entries

pub write_sheet-requires : goal.write_sheet-requires
write_sheet-requires c =
    let f = c.args in
    let p = c.requires.0 in
    let job = job_at (goal.at.write_sheet-requires c).Start in
    let m = f.plan.m in record {
      n_high = (
        p.n_high,
        omega (arith, p.early),
        p.K_high,
        omega (arith, p.kinds),
        omega (arith, p.new, p.low, draws_mono job.n (kind_of job) job.K m (suc m) (omega arith)),
        simp (length-take, length-drop) (omega (arith, c.requires.1, c.write_records-at.ensures.0, c, c)),
      );
      by_index = λ b h k. omega (arith, p.new, columns_within job.n (kind_of job) job.K m b (omega (arith, p.early)) h k, p.drawn.enough);
    }

pub returns : goal.returns
returns c =
    let f = c.args in
    let g = head_group f.entries.head in
    let job = job_at (goal.at.returns c).Start in
    let r = c.write_records-at in
    more _ _ _ _ _ _ (length_records sha256 job g (list_of f.plan.before) f.plan.a f.plan.m job.K ∙ sym r.ensures.0) r.ensures.1 c.write_sheet.ensures
    ∙ ap (λ (x : List ℕ). written (plan_records sha256 job g f.plan ++ x) f.out.now) (from_round job g f.plan c.requires.0.new)

pub write_records-at-requires : goal.write_records-at-requires
write_records-at-requires c = let p = c.requires in (p.0, omega (arith, p.1))
