use Prim.Native.Nat.{ℕ, ◌+◌}
use mathlib.Core.Path.{◌≡◌, refl, ap, ◌∙◌}
use native.Mathlib.Omega.{arith}
use Rattle.numbers.specs.Below.{sum_below}
use Rattle.ballots.specs.Parts.{sum_but}
use Rattle.ballots.proofs.Secrets.{sum_more, sum_passed}
use Rattle.ballots.proofs.sums.sum_of.Goals.{else-i-but, then-i-but}
use Rattle.ballots.proofs.sums.sum_of.Goals as goal

pub loop-i-init : goal.loop-i-init
unfolding sum_but sum_below
loop-i-init c = (omega arith, omega arith, refl)

pub loop-i-preserved : goal.loop-i-preserved
loop-i-preserved c =
    let l = c.loop-i in
    let f = c.args in
    (elim c.if-i-but.branch [
      | then-i-but w ↦ (omega arith, rw w.sum-is (omega arith), w.sum-is ∙ ap (λ (x : ℕ). l.sum + x) w.from-sum.ensures ∙ sum_more f.draws.now f.at f.stride f.but l.i l.sum l.invariant.2 w.if-i-but.true)
      | else-i-but w ↦ (omega arith, rw w.sum-is (omega arith), w.sum-is ∙ sum_passed f.draws.now f.at f.stride f.but l.i l.sum l.invariant.2 w.if-i-but.false)
    ])

pub returns : goal.returns
returns c = let l = c.loop-i in let e : l.i ≡ c.args.count = omega arith in c.reduce.ensures ∙ rw (l.invariant.2, e)
