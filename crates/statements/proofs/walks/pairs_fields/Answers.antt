use Rattle.std.proofs.Common.{rules}
use Rattle.statements.specs.Walks.{pair_fields}
use Rattle.statements.proofs.walks.pairs_fields.Goals as goal

pub walk-requires : goal.walk-requires
walk-requires c = let a = c.args in (λ x. pair_fields a.board.now x a.p a.q, 8, record { may = λ x h. search rules; goes = λ x r h p. search rules })

pub returns : goal.returns
returns c = let a = c.args in c.walk.ensures (λ x. pair_fields a.board.now x a.p a.q) 8 (record { may = λ x h. search rules; goes = λ x r h p. search rules })
