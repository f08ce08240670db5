use mathlib.Core.Path.{sym, ◌∙◌}
use native.Mathlib.Omega.{arith}
use Rattle.testing.proofs.Pieces.{within}
use Rattle.cases.proofs.run.Goals as goal

pub loop-at-smaller : goal.loop-at-smaller
loop-at-smaller g c =
    let name = within c.args.input.now _ _ _ (sym c.piece_at.ensures ∙ c.in-Some.is) in
    let board = within c.args.input.now _ _ _ (sym c.piece_at-in-loop-at.ensures ∙ c.in-Some-piece_at.is) in
    omega (arith, name, board)
