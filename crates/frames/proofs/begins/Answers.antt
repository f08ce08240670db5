use mathlib.Core.Path.{sym, ◌∙◌}
use native.Mathlib.Omega.{arith}
use Rattle.frames.proofs.Framing.{begun_short, begun_mark, begun_sound}
use Rattle.frames.proofs.begins.Goals as goal

pub returns-then-not-has_mark : goal.returns-then-not-has_mark
returns-then-not-has_mark c = begun_mark _ _ _ _ (omega arith) (sym c.has_mark.ensures ∙ c.if-not-has_mark.true)

pub returns : goal.returns
returns c = begun_sound _ _ _ _ (omega arith) (sym c.has_mark.ensures ∙ c.if-not-has_mark.false)

pub returns-then-board-at : goal.returns-then-board-at
returns-then-board-at c = begun_short _ _ _ _ (omega arith)
