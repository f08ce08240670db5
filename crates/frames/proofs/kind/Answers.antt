use native.Mathlib.Omega.{arith}
use Rattle.frames.proofs.Framing.{kind_past}
use Rattle.frames.proofs.kind.Goals as goal

pub returns-then-board-at-lt5 : goal.returns-then-board-at-lt5
returns-then-board-at-lt5 c = let a = c.args in kind_past a.board.now a.at (omega arith)
