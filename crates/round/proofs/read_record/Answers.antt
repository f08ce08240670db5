use Rattle.std.proofs.Common.{rules}
use Rattle.round.specs.Walks.{RecordPasses}
use Rattle.round.proofs.RecordAt.{numbered_lem}
use Rattle.round.proofs.read_record.Goals.{then-round-eq0, else-round-eq0}
use Rattle.round.proofs.read_record.Goals as goal

pub returns : goal.returns
returns c =
    let a = c.args in
    let passed : RecordPasses a.board.now a.h a.round.a a.round.m a.walk.k a.at c.if-round-eq0.passed =
    elim c.if-round-eq0.branch [ then-round-eq0 w ↦ rw w.passed-is w.read_first-passed.ensures | else-round-eq0 w ↦ rw w.passed-is w.read_later-passed.ensures ] in
    numbered_lem _ _ _ _ _ _ _ passed c.map_err.ensures.cases (λ e d g. search rules)
