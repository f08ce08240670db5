use Rattle.std.proofs.Common.{rules}
use Prim.Native.Nat.{◌+◌, ◌*◌}
use mathlib.Core.Path.{◌∙◌}
use Rattle.statements.specs.Walks.{branch_fields}
use Rattle.statements.proofs.Reading.{proof_walked}
use Rattle.statements.proofs.walks.proof_fields.Goals as goal

pub walk-requires : goal.walk-requires
walk-requires c = let a = c.args in (λ x. branch_fields a.board.now x a.statements a.p a.q, 4 + 12 * a.statements, record { may = λ x h. search rules; goes = λ x r h p. search rules })

pub returns : goal.returns
returns c = let a = c.args in c.walk.ensures (λ x. branch_fields a.board.now x a.statements a.p a.q) (4 + 12 * a.statements) (record { may = λ x h. search rules; goes = λ x r h p. search rules }) ∙ proof_walked a.board.now a.at a.branches a.statements a.p a.q
