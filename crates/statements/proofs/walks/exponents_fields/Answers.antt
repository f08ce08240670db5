use Rattle.std.proofs.Common.{rules}
use lib.Dec.{ltb}
use Rattle.rules.specs.Bytes.{number4}
use Rattle.statements.proofs.walks.exponents_fields.Goals as goal

pub walk-requires : goal.walk-requires
walk-requires c = let a = c.args in (λ x. ltb (number4 a.board.now x) a.q, 4, record { may = λ x h. search rules; goes = λ x r h p. search rules })

pub returns : goal.returns
returns c = let a = c.args in c.walk.ensures (λ x. ltb (number4 a.board.now x) a.q) 4 (record { may = λ x h. search rules; goes = λ x r h p. search rules })
