use Prim.Native.Nat.{ℕ, suc, ◌+◌, ◌≤◌}
use mathlib.Core.Path.{◌≡◌, refl, sym, ◌∙◌}
use native.Mathlib.Omega.{arith}
use lib.ListN.{length, get_or, length-take, length-drop}
use Rattle.numbers.specs.Below.{sum_below, concat_below}
use Rattle.numbers.proofs.Sums.{sum_more, sum_within}
use Rattle.sha256.specs.Message.{sha256}
use Rattle.rules.specs.Records.{record_length}
use Rattle.jobs.specs.Job as J
use Rattle.jobs.specs.Job.{kind_of, record_draws}
use Rattle.jobs.specs.Board.{record_bytes}
use Rattle.jobs.proofs.Draws.{draws_mono}
use Rattle.output.proofs.Laws.{none, joined_more}
use Rattle.count.specs.State.{list_of}
use Rattle.boards.specs.Parts.{board_job, head_group}
use Rattle.boards.proofs.RoundPlans.{length_records}
use borrow.Author.Rules.{rules}
use Rattle.boards.proofs.records.write_records.Goals.{In-loop-b, Start}
use Rattle.boards.proofs.records.write_records.Goals as goal

abbrev job_at : (s : goal.Start) → J.Job
job_at s = board_job s.args.entries

pub loop-b-init : goal.loop-b-init
unfolding sum_below concat_below
loop-b-init c = (omega arith, refl, refl, omega arith, λ j e. omega arith, omega arith, omega arith, omega arith, none _)

-- the record and its end are within the records
within : (c : goal.In-loop-b) → let f = c.args in
    let l = c.loop-b in l.at + record_length f.entries.head.n (get_or f.entries.kinds.now l.b 0) f.plan.m ≤ length f.out.now
within c =
    let f = c.args in
    let l = c.loop-b in
    omega (arith, sum_within f.entries.head.k l.b (λ i. record_length f.entries.head.n (get_or f.entries.kinds.now i 0) f.plan.m) (omega arith), l.invariant.2, c.requires.1)

-- the round's draws are few
near : (s : goal.Start) → s.args.plan.new ≤ 10000000
near s =
    let job = job_at s in
    omega (arith, s.requires.0.new, s.requires.0.low, draws_mono job.n (kind_of job) job.K s.args.plan.m (suc s.args.plan.m) (omega arith))

pub write_record-requires : goal.write_record-requires
write_record-requires c =
    let l = c.loop-b in
    let p = c.requires in (
      record {
        round = p.0;
        below = omega (arith, c.loop-b-test.true);
        new = l.invariant.3 ∙ rw p.0.new;
        old = λ j e. l.invariant.4 j e ∙ rw (p.0.later j e).old;
      },
      simp (length-take, length-drop) (omega (arith, within (goal.at.write_record-requires c).In-loop-b, l.invariant.1)),
    )

pub loop-b-preserved : goal.loop-b-preserved
loop-b-preserved c =
    let f = c.args in
    let l = c.loop-b in
    let kind : ℕ → ℕ = λ i. get_or f.entries.kinds.now i 0 in
    let told = c.from-kind.ensures in
    let size = c.record_length-at.ensures in
    let was = c.draws_before-old.ensures in
    let own = c.record_draws-new.ensures in
    let g = head_group f.entries.head in (
      omega (arith, c.loop-b-test.true),
      search rules,
      sum_more l.b l.at _ (λ i. record_length f.entries.head.n (kind i) f.plan.m) l.invariant.2 (size.0 ∙ rw told),
      omega (arith, l.invariant.3, sum_more l.b _ _ (λ i. record_draws f.entries.head.n (kind i) f.plan.m) refl (own.0 ∙ rw told)),
      λ j e. omega (arith, l.invariant.4 j e, sum_more l.b _ _ (λ i. record_draws f.entries.head.n (kind i) j) refl (was.0 j e ∙ rw told)),
      omega (arith, l.invariant.5, own.1),
      omega (arith, l.invariant.6, was.1),
      omega (arith, l.invariant.7, size.1),
      joined_more (record_bytes sha256 (job_at (goal.at.loop-b-preserved c).Start) g (list_of f.plan.before) f.plan.a f.plan.m) l.b l.at _ l.out _
          (length_records sha256 (job_at (goal.at.loop-b-preserved c).Start) g (list_of f.plan.before) f.plan.a f.plan.m l.b ∙ sym l.invariant.2) l.invariant.8 c.write_record.ensures,
    )

pub returns : goal.returns
returns c =
    let l = c.loop-b in
    let e : l.b ≡ c.args.entries.head.k = omega arith in
    (l.invariant.2 ∙ rw e, l.invariant.8 ∙ rw e)

pub slice_bounds-write_record-count : goal.slice_bounds-write_record-count
slice_bounds-write_record-count c = omega (arith, within (goal.at.slice_bounds-write_record-count c).In-loop-b, c.loop-b.invariant.1)

pub slice_bounds-write_record-start : goal.slice_bounds-write_record-start
slice_bounds-write_record-start c = omega (arith, within (goal.at.slice_bounds-write_record-start c).In-loop-b, c.loop-b.invariant.1)

pub overflow_add-new : goal.overflow_add-new
overflow_add-new c = omega (arith, c.loop-b.invariant.5, c.record_draws-new.ensures.1, c.requires.0.K_high, near (goal.at.overflow_add-new c).Start)
