use Rattle.std.proofs.Common.{sym, ◌∙◌, arith}
use Rattle.count.specs.State.{counts_by}
use Rattle.count.proofs.Comparison.{fewer_more, fewer_found, fewer_none}
use Rattle.count.proofs.orders.fewer.Goals as goal

pub returns-then-x-y : goal.returns-then-x-y
returns-then-x-y c =
    let a = c.args in
    let l = c.loop-i in
    fewer_found a.sheets a.rounds a.a a.b l.i (omega arith) (omega arith) l.invariant (λ e. omega arith)

pub loop-i-preserved : goal.loop-i-preserved
loop-i-preserved c =
    let a = c.args in
    let l = c.loop-i in
    fewer_more a.sheets a.rounds a.a a.b l.i (omega arith) (omega arith) l.invariant (omega arith)

pub returns : goal.returns
returns c =
    let a = c.args in
    let l = c.loop-i in
    sym (l.invariant ∙ fewer_none (counts_by a.sheets) l.i a.a a.b (omega arith))
