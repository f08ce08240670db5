use Prim.Native.Nat.{◌+◌, ◌≤◌, ◌<◌}
use mathlib.Core.Path.{◌≡◌, refl, ap, ◌∙◌}
use native.Mathlib.Omega.{arith}
use lib.ListN.{length, get_or, length-take, length-drop}
use Rattle.numbers.specs.Below.{sum_below, concat_below}
use Rattle.sha256.specs.Message.{sha256}
use Rattle.rules.specs.Records.{record_length, sheet_length}
use Rattle.jobs.specs.Job as J
use Rattle.jobs.specs.Job.{kind_of, round_draws, round_at}
use Rattle.output.proofs.Laws.{none}
use Rattle.plain.proofs.Counted.{draws_more, length_more}
use Rattle.boards.specs.Parts.{board_job, head_group, draws_before}
use Rattle.jobs.proofs.Draws.{draws_mono}
use Rattle.boards.proofs.RoundPlans.{place_mono, place_next, round_ready, plan_is, rounds_more}
use borrow.Author.Rules.{rules}
use Rattle.boards.proofs.rounds.write_rounds.Goals.{In-loop-m, Start}
use Rattle.boards.proofs.rounds.write_rounds.Goals as goal

abbrev job_at : (s : goal.Start) → J.Job
job_at s = board_job s.args.entries

pub loop-m-init : goal.loop-m-init
unfolding concat_below round_at round_draws
loop-m-init c = (omega arith, refl, refl, refl, omega arith, refl, λ j e. absurd (omega arith), omega arith, none _)

-- the round's number is below that of processes
below : (c : goal.In-loop-m) → (c.args.entries.head.n ≤ 8) × (c.loop-m.m < c.args.entries.head.n) × (c.loop-m.m < c.args.count.gone.outs + 1)
below c =
    let p = c.requires.0 in
    (p.n_high, omega (arith, p.few, c.loop-m-test.true, c.loop-m.invariant.1), omega (arith, c.loop-m-test.true, c.loop-m.invariant.1))

-- the round and its end are within the board
within : (c : goal.In-loop-m) → let f = c.args in
    let l = c.loop-m in l.at + sum_below f.entries.head.k (λ i. record_length f.entries.head.n (get_or f.entries.kinds.now i 0) l.m) + sheet_length f.entries.head.n ≤ length f.out.now
within c =
    let job = board_job c.args.entries in
    let l = c.loop-m in
    omega (arith, place_next job.n (kind_of job) job.K l.m, place_mono job.n (kind_of job) job.K (l.m + 1) (c.args.count.gone.outs + 1) (omega (arith, below c)), c.requires.2, l.invariant.3)

-- its draws are few
near : (c : goal.In-loop-m) → draws_before (board_job c.args.entries) c.loop-m.m ≤ 10000000
near c =
    let job = board_job c.args.entries in
    omega (arith, draws_mono job.n (kind_of job) job.K c.loop-m.m (c.args.count.gone.outs + 1) (omega (arith, below c)), c.requires.0.low)

pub write_round-requires : goal.write_round-requires
write_round-requires c =
    let l = c.loop-m in
    let w = c.plan_of-plan.ensures in (
      round_ready (job_at (goal.at.write_round-requires c).Start) c.args.count (c.args.count.gone.outs + 1) l.m _ _ _ c.requires.0 (below (goal.at.write_round-requires c).In-loop-m).2 w l.invariant.5 l.invariant.6 l.invariant.7,
      rw w.round (simp (length-take, length-drop) (omega (arith, within (goal.at.write_round-requires c).In-loop-m, l.invariant.2))),
    )

pub loop-m-preserved : goal.loop-m-preserved
loop-m-preserved c =
    let l = c.loop-m in
    let f = c.args in
    let g = head_group f.entries.head in
    let job = job_at (goal.at.loop-m-preserved c).Start in
    let p = c.plan_of-plan.ensures in
    let m = c.measure_round-round.ensures in
    let size = c.sheet_length.ensures in (
      omega (arith, c.loop-m-test.true),
      l.invariant.1,
      search rules,
      omega (arith, length_more job.n (kind_of job) job.K l.m (l.at + 54) _ _ l.invariant.3 m.1 size.0),
      omega (arith, l.invariant.4, m.3, size.1),
      draws_more job.n (kind_of job) job.K l.m l.new _ l.invariant.5 m.0,
      λ j e. let z : l.m ≡ j = omega arith in l.invariant.5 ∙ ap (draws_before job) z,
      omega (arith, l.invariant.5, near (goal.at.loop-m-preserved c).In-loop-m),
      rounds_more sha256 job g f.count.gone.order l.m l.at _ l.out _ _ l.invariant.3 l.invariant.8
          (plan_is sha256 job g f.count l.m _ _ _ p c.requires.1 (omega (arith, below (goal.at.loop-m-preserved c).In-loop-m))) c.write_round.ensures,
    )

pub returns : goal.returns
returns c =
    let l = c.loop-m in
    let e : l.m ≡ c.args.count.gone.outs + 1 = omega (arith, l.invariant.1) in
    l.invariant.8 ∙ rw e

pub plan_of-plan-requires : goal.plan_of-plan-requires
plan_of-plan-requires c = omega (arith, below c)

pub slice_bounds-write_round-count : goal.slice_bounds-write_round-count
slice_bounds-write_round-count c = omega (arith, within (goal.at.slice_bounds-write_round-count c).In-loop-m, c.loop-m.invariant.2)

pub slice_bounds-write_round-start : goal.slice_bounds-write_round-start
slice_bounds-write_round-start c = omega (arith, within (goal.at.slice_bounds-write_round-start c).In-loop-m, c.loop-m.invariant.2)

pub measure_round-round-requires : goal.measure_round-round-requires
measure_round-round-requires c = let p = c.requires.0 in ((below (goal.at.measure_round-round-requires c).In-loop-m).0, (below (goal.at.measure_round-round-requires c).In-loop-m).1, p.K_high, omega (arith, p.kinds))

pub sheet_length-requires : goal.sheet_length-requires
sheet_length-requires c = (below (goal.at.sheet_length-requires c).In-loop-m).0

pub overflow_add-new : goal.overflow_add-new
overflow_add-new c = omega (arith, c.measure_round-round.ensures.2, c.loop-m.invariant.5, near (goal.at.overflow_add-new c).In-loop-m)
