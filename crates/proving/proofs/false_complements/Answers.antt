use Prim.Native.Nat.{ℕ, ◌+◌}
use mathlib.Core.Path.{◌≡◌, refl, ap, ◌∙◌}
use native.Mathlib.Omega.{arith}
use Rattle.numbers.specs.Below.{sum_below}
use Rattle.proving.specs.Plans.{false_complements}
use Rattle.proving.proofs.Draws.{against_true, against_false}
use Rattle.proving.proofs.false_complements.Goals.{else-l-plan, then-l-plan}
use Rattle.proving.proofs.false_complements.Goals as goal

pub loop-l-init : goal.loop-l-init
unfolding false_complements sum_below
loop-l-init c = (omega arith, omega arith, omega arith, refl)

pub loop-l-preserved : goal.loop-l-preserved
loop-l-preserved c =
    let l = c.loop-l in
    let f = c.args in
    (elim c.if-l-plan.branch [
      | then-l-plan w ↦ (
        omega arith,
        omega arith,
        rw w.sum-is (omega (arith, c.requires.low)),
        w.sum-is ∙ ap (λ (x : ℕ). l.sum + x) w.from-sum.ensures ∙ rw w.branch_draws-at.ensures (against_false f.q f.plan f.draws.now c.requires l.l (omega arith) _ l.invariant.3 w.if-l-plan.true),
      )
      | else-l-plan w ↦ (omega arith, omega arith, rw w.sum-is (omega arith), w.sum-is ∙ against_true f.q f.plan f.draws.now c.requires l.l (omega arith) _ l.invariant.3 w.if-l-plan.false)
    ])

pub returns : goal.returns
returns c = let l = c.loop-l in let e : l.l ≡ c.args.plan.branches = omega arith in (l.invariant.3 ∙ rw e, omega arith)
