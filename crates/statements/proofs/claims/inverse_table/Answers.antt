use native.Mathlib.Omega.{arith}
use Rattle.statements.proofs.Inverses.{table_made}
use Rattle.statements.proofs.claims.inverse_table.Goals as goal

pub returns : goal.returns
returns c = let a = c.args in table_made a.s.now a.p a.q a.at a.words _ (omega arith) c.loop-u.invariant.long (λ v h. c.loop-u.invariant.inverted v (omega arith))
