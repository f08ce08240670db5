use native.Mathlib.Omega.{arith}
use Rattle.output.proofs.Laws.{copied_none, copied_more, copied_all}
use Rattle.gooseoften.proofs.answers.put_order.Goals as goal

pub loop-i-preserved : goal.loop-i-preserved
loop-i-preserved c = copied_more _ _ c.loop-i.invariant (omega (arith, c.well_formed)) (omega (arith, c.well_formed, c.requires))

pub loop-i-init : goal.loop-i-init
loop-i-init c = copied_none _ _

pub bounds-answer-i : goal.bounds-answer-i
bounds-answer-i c = omega (arith, c.loop-i.invariant.long)

pub shape_of-answer : goal.shape_of-answer
shape_of-answer c = c.loop-i.invariant.long

pub returns : goal.returns
returns c = copied_all _ _ c.loop-i.invariant (omega (arith, c.well_formed))
