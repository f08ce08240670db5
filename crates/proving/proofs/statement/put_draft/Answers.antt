use Rattle.group.specs.Elements.{parameters_of}
use Rattle.statements.specs.Values.{statement_of}
use Rattle.proving.proofs.Stating.{stated_true, stated_false}
use Rattle.proving.proofs.statement.put_draft.Goals as goal

pub returns-then-known : goal.returns-then-known
returns-then-known c =
    let f = c.args in
    rw c.if-known.true
    (stated_true _ _ _ _ _ (parameters_of f.g) (statement_of f.s) f.e.0 f.r.0 _ _ c.pow-t1.ensures c.pow-t2.ensures c.put_statement.ensures)

pub returns-else-known : goal.returns-else-known
returns-else-known c =
    let f = c.args in
    rw c.if-known.false
    (stated_false _ _ _ _ _ (parameters_of f.g) (statement_of f.s) f.e.0 f.r.0 _ _ c.commitment-t1.ensures c.commitment-t2.ensures c.put_statement-else-known.ensures)
