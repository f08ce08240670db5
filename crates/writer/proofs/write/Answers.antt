use mathlib.Core.Path.{◌≡◌, refl, sym, ap, ◌∙◌}
use native.Mathlib.Omega.{arith}
use Rattle.std.proofs.lemmas.Result.{err_from_is_err_and}
use Rattle.sha256.specs.Message.{sha256}
use Rattle.group.specs.Elements.{parameters_of}
use Rattle.jobs.specs.Job as J
use Rattle.jobs.specs.Job.{group_of}
use Rattle.jobs.specs.Write.{no_repeat, Passed, Valid}
use Rattle.jobs.proofs.FineJob.{fine}
use Rattle.validity.specs.Jobs.{job_of}
use Rattle.validity.specs.Tests.{JobTested}
use Rattle.validity.proofs.Tests.{group_positive}
use Rattle.writer.specs.Steps.{Measured}
use Rattle.writer.proofs.Outcomes.{measurable, measured, measured_rounds, draws_are, enough, repeats_are, stops_draws, stops_repeat, stops_room, refuses}
use Rattle.writer.proofs.Boards.{can, sheeted, room, told, writes}
use Rattle.writer.proofs.write.Goals.{In_ok-g, After-measure_of-m, Else-not-draws_good, After-none_repeats-different}
use Rattle.writer.proofs.write.Goals as goal

-- the job passed the tests up to its kinds, and this is its group
sound : (c : goal.In_ok-g) → let j = job_of c.args.job c.args.label.now c.args.rankings.now c.args.kinds.now c.args.draws.now in
    Passed sha256 j × (parameters_of c.in_ok-g.g ≡ group_of sha256 j)
unfolding JobTested
sound c = c.in_ok-g.ensures c.args.draws.now

measured_is : (c : goal.After-measure_of-m) → let j = job_of c.args.job c.args.label.now c.args.rankings.now c.args.kinds.now c.args.draws.now in
    Measured j c.count-ended.result c.measure_of-m.result
measured_is c = measured _ _ _ c.count-ended.ensures c.measure_of-m.ensures

valid : (c : goal.Else-not-draws_good) → Valid sha256 (job_of c.args.job c.args.label.now c.args.rankings.now c.args.kinds.now c.args.draws.now)
unfolding JobTested
valid c =
    let j : J.Job = job_of c.args.job c.args.label.now c.args.rankings.now c.args.kinds.now c.args.draws.now in
    let m = measured j _ _ c.count-ended.ensures c.measure_of-m.ensures in
    record { passed = (c.in_ok-g.ensures c.args.draws.now).0; drawn = sym (draws_are j m.needed c.draws_good.ensures) ∙ c.if-not-draws_good.false }

repeats_told : (c : goal.After-none_repeats-different) → c.none_repeats-different.result ≡ no_repeat (job_of c.args.job c.args.label.now c.args.rankings.now c.args.kinds.now c.args.draws.now)
repeats_told c =
    let j : J.Job = job_of c.args.job c.args.label.now c.args.rankings.now c.args.kinds.now c.args.draws.now in
    repeats_are j _ _ (measured_rounds j (measured j _ _ c.count-ended.ensures c.measure_of-m.ensures)) c.none_repeats-different.ensures

pub returns-in_err-g : goal.returns-in_err-g
unfolding JobTested
returns-in_err-g c =
    let p = err_from_is_err_and c.from_residual.result c.from_residual.ensures.1 in
    let a = refuses _ _ _ _ (c.in_err-g.ensures c.args.draws.now c.args.out.now) refl in
    record { result_value = rw (p.1, p.2) a.0; order_value = rw p.1 tt; out_after = a.1 }

pub count-ended-requires : goal.count-ended-requires
count-ended-requires c = measurable _ (sound (goal.at.count-ended-requires c).In_ok-g).0

pub measure_of-m-requires : goal.measure_of-m-requires
measure_of-m-requires c = let w = measurable _ (sound (goal.at.measure_of-m-requires c).In_ok-g).0 in (w.1, omega (arith, c.count-ended.ensures.2), w.2, w.4)

pub returns-then-not-draws_good : goal.returns-then-not-draws_good
returns-then-not-draws_good c =
    let at = goal.at.returns-then-not-draws_good c in
    let bad = sym (draws_are _ (measured_is at.After-measure_of-m).needed c.draws_good.ensures) ∙ c.if-not-draws_good.true in
    let a = refuses _ _ _ _ (stops_draws _ _ (sound at.In_ok-g).0 bad) c.refused.ensures in
    record { result_value = a.0; order_value = tt; out_after = a.1 }

pub none_repeats-different-requires : goal.none_repeats-different-requires
none_repeats-different-requires c =
    let at = goal.at.none_repeats-different-requires c in
    let w = measurable _ (sound at.In_ok-g).0 in (
      w.1,
      omega (arith, c.count-ended.ensures.2),
      w.4,
      omega (arith, c.measure_of-m.ensures.0, (measured_is at.After-measure_of-m).needed, enough _ (valid at.Else-not-draws_good).drawn),
    )

pub returns-then-not-different : goal.returns-then-not-different
returns-then-not-different c =
    let at = goal.at.returns-then-not-different c in
    let a = refuses _ _ _ _ (stops_repeat _ _ (valid at.Else-not-draws_good) (sym (repeats_told at.After-none_repeats-different) ∙ c.if-not-different.true)) c.refused-then-not-different.ensures in
    record { result_value = a.0; order_value = tt; out_after = a.1 }

pub returns-then-short : goal.returns-then-short
returns-then-short c =
    let at = goal.at.returns-then-short c in
    let d = sym (repeats_told at.After-none_repeats-different) ∙ c.if-not-different.false in
    let a = refuses _ _ _ _ (stops_room _ _ (valid at.Else-not-draws_good) d _ (measured_is at.After-measure_of-m).length c.if-short.true) c.refused-then-short.ensures in
    record { result_value = a.0; order_value = tt; out_after = a.1 }

pub new-requires : goal.new-requires
new-requires c =
    let s = sound (goal.at.new-requires c).In_ok-g in
    group_positive (job_of c.args.job c.args.label.now c.args.rankings.now c.args.kinds.now c.args.draws.now) _ s.1 s.0.ordered

pub write_board-requires : goal.write_board-requires
write_board-requires c =
    let at = goal.at.write_board-requires c in
    let v = valid at.Else-not-draws_good in
    let m = measured_is at.After-measure_of-m in
    let g = ap parameters_of c.new.ensures.0 ∙ (sound at.In_ok-g).1 in
    let r = room _ v _ _ m _ g in
    record {
      ready = (can _ v _ _ m _ g, sheeted _ v _ _ m _ g);
      label_len = ((fine sha256 _ v).labelled, omega (arith, r.0, c.if-short.false), omega (arith, r.1, c.if-short.false));
    }

pub board_written-requires : goal.board_written-requires
board_written-requires c = (measured_is (goal.at.board_written-requires c).After-measure_of-m).kept

pub returns : goal.returns
returns c =
    let at = goal.at.returns c in
    let v = valid at.Else-not-draws_good in
    let m = measured_is at.After-measure_of-m in
    let g = ap parameters_of c.new.ensures.0 ∙ (sound at.In_ok-g).1 in
    let d = sym (repeats_told at.After-none_repeats-different) ∙ c.if-not-different.false in
    let t = told _ v _ _ m _ g d _ c.if-short.false _ c.board_written.ensures in
    let w = writes _ v _ _ m _ g d _ c.if-short.false in
    record { result_value = t.0; order_value = t.1; out_after = c.write_board.ensures ∙ w }
