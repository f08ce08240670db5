use native.Mathlib.Omega.{arith}
use Rattle.output.proofs.Laws.{copied_none, copied_more, copied_all}
use Rattle.output.proofs.put_bytes.Goals as goal

pub loop-i-init : goal.loop-i-init
loop-i-init c = copied_none _ _

pub bounds-out-i : goal.bounds-out-i
bounds-out-i c = omega (arith, c.loop-i.invariant.long)

pub loop-i-preserved : goal.loop-i-preserved
loop-i-preserved c = copied_more _ _ c.loop-i.invariant (omega arith) c.requires

pub returns : goal.returns
returns c = copied_all _ _ c.loop-i.invariant (omega arith)
