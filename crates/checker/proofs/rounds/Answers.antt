use Prim.Native.Nat.{ℕ, ◌+◌}
use mathlib.Core.Path.{◌≡◌, refl, sym, ◌∙◌, ap}
use mathlib.Core.Bool.{false}
use native.Mathlib.Nat.{sub-zero}
use native.Mathlib.Omega.{arith}
use Rattle.sha256.specs.Message.{sha256}
use Rattle.rules.specs.Count.{table, start}
use Rattle.rules.specs.Check.{Verdict, accepted, check_from, round_verdict}
use Rattle.count.specs.State.{standing_of}
use Rattle.count.specs.declared.Gone.{Gone}
use Rattle.count.proofs.Picks.{sheets_many, same_gone}
use Rattle.header.specs.Heads.{head_of}
use Rattle.round.specs.declared.RoundOutcome.{RoundOutcome}
use Rattle.round.specs.declared.RoundOutcome.TheVariants.{Open, Closed}
use Rattle.round.specs.Outcomes.{RoundComes, Rounded}
use Rattle.round.proofs.Beginnings.{begins_first, begins_next}
use Rattle.checker.specs.Counts.{goes_on, stops_from}
use Rattle.checker.proofs.Onward.{one_leaves, sheets_more, verdict_of_lem, ends_with, ends, goes_on_lem, refused_here, open_here, stops_here, stops_later}
use Rattle.checker.proofs.rounds.Goals.{After-read_round, In-Closed}
use Rattle.checker.proofs.rounds.Goals as goal

-- the verdict on the whole board, where the round has a verdict of its own
ended : (c : goal.After-read_round) (W : Verdict) →
    let a = c.args in
    let l = c.loop-read in
    let H = head_of a.reading.board.now a.h in
    ((after : Verdict) → round_verdict sha256 a.reading.board.now H (standing_of a.h.n l.count) l.round.m l.round.a after ≡ W) →
    check_from sha256 a.reading.board.now H a.h.n start 0 0 ≡ W
ended c W =
    let a = c.args in
    let l = c.loop-read in
    let H = head_of a.reading.board.now a.h in
    ends a.reading.board.now H (check_from sha256 a.reading.board.now H a.h.n start 0 0) (standing_of a.h.n l.count) l.round.m l.round.a (omega (arith, l.invariant.0.early)) l.invariant.3 W

-- the standing count where the check stops, where this round does not go on
stopped : (c : goal.After-read_round) → let a = c.args in
    let l = c.loop-read in
    let H = head_of a.reading.board.now a.h in
    goes_on sha256 a.reading.board.now H (standing_of a.h.n l.count) l.round.m l.round.a ≡ false →
    stops_from sha256 a.reading.board.now H a.h.n start 0 0 ≡ standing_of a.h.n l.count
stopped c =
    let a = c.args in
    let l = c.loop-read in
    let H = head_of a.reading.board.now a.h in
    stops_here a.reading.board.now H (stops_from sha256 a.reading.board.now H a.h.n start 0 0) (standing_of a.h.n l.count) l.round.m l.round.a (omega (arith, l.invariant.0.early)) l.invariant.5

pub loop-read-init : goal.loop-read-init
unfolding table
loop-read-init c =
    rw (c.first-round.ensures, c.requires.1) (
      begins_first c.args.reading.board.now c.args.h c.requires.0,
      c.new-count.ensures.0,
      c.new-count.ensures.1,
      rw (sub-zero, c.new-count.ensures.2 c.args.h.n),
      rw (c.new-count.ensures.2 c.args.h.n),
      rw (sub-zero, c.new-count.ensures.2 c.args.h.n),
      refl,
    )

pub returns-in-Err : goal.returns-in-Err
unfolding Rounded
returns-in-Err c =
    let t = rw c.loop-read.invariant.6 at c.in-Err.ensures in
    let at = (goal.at.returns-in-Err c).After-read_round in
    let x = ended at _ t in
    let e = c.refused.ensures in
    record { verdict = rw e.0 (sym x); ordered = rw e.0 tt; counted = rw (x, e.1, e.2) (refl, c.loop-read.invariant.2, sym (stopped at (refused_here _ _ _ _ _ _ _ t))) }

-- the round closes the board
closes : (c : goal.In-Closed) → let Comes : (RoundOutcome → Type 0) = λ o. let a = c.args in let l = c.loop-read in RoundComes a.reading.board.now a.h l.count l.round.m l.round.a o c.in-Ok.read.count in
    Comes (Closed c.in-Closed.winner)
unfolding Rounded
closes c = rw (c.in-Closed.is, c.loop-read.invariant.6) at c.in-Ok.ensures

pub overflow_add-result : goal.overflow_add-result
unfolding RoundComes
overflow_add-result c =
    let l = c.loop-read in
    omega (arith, ap (λ (y : Gone). y.outs) (closes (goal.at.overflow_add-result c).In-Closed).1, l.invariant.1, l.invariant.0.early, c.requires.0.high)

pub returns-in-Closed : goal.returns-in-Closed
unfolding RoundComes
returns-in-Closed c =
    let a = c.args in
    let l = c.loop-read in
    let t = closes (goal.at.returns-in-Closed c).In-Closed in
    let x = ended (goal.at.returns-in-Closed c).After-read_round _ t.0 in
    let g = same_gone a.h.n _ l.count t.1 in
    record {
      verdict = verdict_of_lem a.h.n c.in-Ok.read.count c.in-Closed.winner ∙ (λ i. accepted ((ap (λ (y : Gone). y.outs) t.1 ∙ l.invariant.1) i + 1) (g i) c.in-Closed.winner) ∙ sym x;
      ordered = refl;
      counted = rw x
          (ends_with a.reading.board.now (head_of a.reading.board.now a.h) l.round.m c.in-Closed.winner l.count c.in-Ok.read.count c.requires.0.high
          (omega (arith, ap (λ (y : Gone). y.outs) t.1, l.invariant.1, l.invariant.0.early)) t.2
          (sheets_many a.h.n l.count l.invariant.2 ∙ l.invariant.1) l.invariant.4 t.3);
    }

pub loop-read-preserved : goal.loop-read-preserved
unfolding Rounded RoundComes
loop-read-preserved c =
    let a = c.args in
    let l = c.loop-read in
    let Comes : (RoundOutcome → Type 0) = λ o. RoundComes a.reading.board.now a.h l.count l.round.m l.round.a o c.in-Ok.read.count in
    let o : Comes (Open c.in-Open.out c.in-Open.next c.in-Open.number) = rw (c.in-Open.is, l.invariant.6) at c.in-Ok.ensures in
    let H = head_of a.reading.board.now a.h in
    rw (c.next-round.ensures, c.moved-here.ensures.0, c.moved-here.ensures.1) (
      begins_next a.reading.board.now a.h l.here.next l.round l.invariant.0 (standing_of a.h.n l.count) _ _ (sheets_many a.h.n l.count l.invariant.2 ∙ l.invariant.1)
          o.1 _ _ o.2 o.3 o.4 _
          (rw o.5 (one_leaves a.h.n l.count _ l.invariant.2 (omega (arith, l.invariant.1, l.invariant.0.early)))) o.6,
      o.7 ∙ ap (λ (x : ℕ). x + 1) l.invariant.1,
      o.8,
      goes_on_lem a.reading.board.now H (check_from sha256 a.reading.board.now H a.h.n start 0 0) (standing_of a.h.n l.count) l.round.m
          l.round.a (omega (arith, l.invariant.0.early)) l.invariant.3 o.0 _ _ o.9 o.5,
      sheets_more a.reading.board.now H l.round.m (standing_of a.h.n l.count) _ l.invariant.4 o.9,
      stops_later a.reading.board.now H (stops_from sha256 a.reading.board.now H a.h.n start 0 0) (standing_of a.h.n l.count) l.round.m
          l.round.a (omega (arith, l.invariant.0.early)) l.invariant.5 (open_here a.reading.board.now H _ _ _ o.0) _ _ o.9 o.5,
      l.invariant.6,
    )
