use Prim.Native.Nat.{◌-◌}
use mathlib.Core.Path.{sym}
use native.Mathlib.Omega.{arith}
use Rattle.jobs.proofs.Repeats.{different_none, different_more, different_fails}
use Rattle.validity.proofs.Chains.{chained_none, chained_more, search_ends}
use Rattle.validity.proofs.repeats.all_different.Goals as goal

pub loop-j-init : goal.loop-j-init
loop-j-init c = (different_none _ _, chained_none _ _)

-- a repeat
pub returns-then-draws-from : goal.returns-then-draws-from
returns-then-draws-from c =
    let f = c.args in
    let l = c.loop-j in
    let s = c.loop-h in
    sym (different_fails f.draws.now f.from f.size (s.h - 1) l.j (omega (arith, s.invariant.within)) (omega arith) (omega arith))

pub loop-j-preserved : goal.loop-j-preserved
loop-j-preserved c =
    let f = c.args in
    let l = c.loop-j in
    let s = c.loop-h in (
      different_more f.draws.now f.from l.j l.invariant.0 (search_ends f.draws.now f.from l.j s.h (omega arith) s.invariant),
      chained_more f.draws.now f.from l.last l.prior l.j l.invariant.1 (omega (arith, c.requires)),
    )
