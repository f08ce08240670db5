use Prim.Native.Nat.{◌-◌}
use mathlib.Core.Path.{◌≡◌, sym}
use native.Mathlib.Omega.{arith}
use lib.ListN.{length}
use borrow.Author.Tests.{eq-eqb, ne_eqb}
use Rattle.numbers.proofs.Tests.{all_none, all_more, all_fails, all_end}
use Rattle.find_cases.proofs.list.kept.Goals as goal

pub returns-then-list-from : goal.returns-then-list-from
returns-then-list-from c = let e : length c.args.list.now - c.args.from ≡ 0 = omega arith in rw (e, all_none)

pub loop-i-init : goal.loop-i-init
loop-i-init c = (omega arith, omega arith, all_none _)

pub returns-then-list-from-2 : goal.returns-then-list-from-2
returns-then-list-from-2 c = sym (all_fails _ c.loop-i.i _ (omega arith) (ne_eqb _ _ c.if-list-from-2.true))

pub loop-i-preserved : goal.loop-i-preserved
loop-i-preserved c = let l = c.loop-i in (omega arith, l.invariant.1, all_more l.i _ l.invariant.2 (eq-eqb _ _ c.if-list-from-2.false))

pub returns : goal.returns
returns c = let l = c.loop-i in sym (all_end _ l.i _ (omega arith) (omega arith) l.invariant.2)
