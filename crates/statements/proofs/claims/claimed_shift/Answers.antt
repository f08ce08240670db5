use Prim.Native.Nat.{◌+◌, ◌*◌, ◌-◌, ◌<◌}
use mathlib.Core.Path.{◌∙◌}
use native.Mathlib.Omega.{arith}
use Rattle.group.specs.Elements.{parameters_of}
use Rattle.statements.proofs.PlainClaims.{said}
use Rattle.statements.proofs.ShiftClaims.{source_below, shift_zero, shift_one, shift_more}
use Rattle.statements.proofs.claims.claimed_shift.Goals.{After-source_of-from}
use Rattle.statements.proofs.claims.claimed_shift.Goals as goal

pub returns-in-0 : goal.returns-in-0
returns-in-0 c =
    let a = c.args in
    c.claimed_entry.ensures ∙ shift_zero a.s.now (parameters_of a.g.group) a.m.n a.m.before a.m.new a.m.a a.l a.k c.in-0.is

pub returns-in-1 : goal.returns-in-1
returns-in-1 c =
    let a = c.args in
    shift_one a.s.now (parameters_of a.g.group) a.m.n a.m.before a.m.new a.m.a a.l a.k _ _ c.in-1.is c.product_besides.ensures c.product_besides-in-1.ensures

-- the pair before that the new one comes from is within the matrix before
source_fits : (c : goal.After-source_of-from) → let a = c.args in c.source_of-from.result < (a.m.rows + 1) * a.m.n
source_fits c = let a = c.args in rw c.source_of-from.ensures (source_below a.m.n a.l (a.k - 2) a.m.rows (omega arith))

pub bounds-inverses-from-in_default : goal.bounds-inverses-from-in_default
bounds-inverses-from-in_default c = omega (arith, source_fits (goal.at.bounds-inverses-from-in_default c).After-source_of-from, c.requires.shifts.long_enough)

pub returns-in_default : goal.returns-in_default
returns-in_default c =
    let a = c.args in
    let from = c.source_of-from.result in
    let h = source_fits (goal.at.returns-in_default c).After-source_of-from in
    let inverted = c.requires.shifts.inverted in
    said _ _ _ _ c.mul.ensures c.mul-in_default.ensures
    ∙ shift_more a.s.now (parameters_of a.g.group) a.m.n a.m.before a.m.new a.m.a a.l a.k from _ _ _ _ (omega arith) c.source_of-from.ensures c.as_element.ensures c.as_element-in_default.ensures
    (inverted (2 * from) (omega arith)) (inverted (2 * from + 1) (omega arith))
