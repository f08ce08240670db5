use Prim.Native.Nat.{◌-◌}
use Rattle.output.proofs.Laws.{Copied}
use Rattle.gooseoften.proofs.answers.put_order.Given as goal

abbrev pub invariant-loop-i : goal.invariant-loop-i
invariant-loop-i l = Copied l.order l.initial.answer l.answer l.i

abbrev pub decreases-loop-i : goal.decreases-loop-i
decreases-loop-i l = 8 - l.i
