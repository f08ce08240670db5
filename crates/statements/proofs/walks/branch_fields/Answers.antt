use Rattle.std.proofs.Common.{rules}
use Rattle.statements.specs.Walks.{statement_fields}
use Rattle.statements.proofs.Reading.{branch_walked}
use Rattle.statements.proofs.walks.branch_fields.Goals as goal

pub walk-requires : goal.walk-requires
walk-requires c = let a = c.args in (λ x. statement_fields a.board.now x a.p a.q, 12, record { may = λ x h. search rules; goes = λ x r h p. search rules })

pub returns : goal.returns
returns c =
    let a = c.args in
    branch_walked a.board.now a.at a.statements a.p a.q c.in_ok-first.first _ c.in_ok-first.ensures
    (c.walk.ensures (λ x. statement_fields a.board.now x a.p a.q) 12 (record { may = λ x h. search rules; goes = λ x r h p. search rules }))
