use mathlib.Core.Path.{◌≡◌, refl}
use native.Mathlib.Omega.{arith}
use Rattle.sheets.proofs.Products.{rowed_more, with_row_lem}
use Rattle.sheets.proofs.tally.Tally.with_row.Goals as goal

pub loop-i-preserved : goal.loop-i-preserved
loop-i-preserved c =
    let l = c.loop-i in (
      rowed_more _ _ _ l.invariant.0 (omega arith) _ c.as_element.ensures c.mul.ensures,
      rowed_more _ _ _ l.invariant.1 (omega arith) _ c.as_element-in-loop-i.ensures c.mul-in-loop-i.ensures,
    )

pub returns : goal.returns
returns c =
    let a = c.args in
    let l = c.loop-i in
    let e : l.i ≡ a.h.n = omega arith in
    (refl, with_row_lem a.board.now a.h.setup.group.p a.h.n a.at a.self l.b l.y _ (rw e at l.invariant.0) (rw e at l.invariant.1))
