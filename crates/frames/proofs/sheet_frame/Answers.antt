use mathlib.Core.Path.{sym, ◌∙◌}
use native.Mathlib.Omega.{arith}
use Rattle.std.proofs.lemmas.Result.{err_from_is_err_and}
use Rattle.rules.specs.Records.{RT, sheet_length}
use Rattle.std.specs.Prelude.{Ok}
use Rattle.frames.specs.Framed.{Begun}
use Rattle.frames.proofs.Framing.{frame_begun, frame_number, frame_sound}
use Rattle.frames.proofs.sheet_frame.Goals.{In_ok-begins}
use Rattle.frames.proofs.sheet_frame.Goals as goal

begun : (c : goal.In_ok-begins) → let a = c.args in Begun a.board.now a.at (sheet_length a.n) RT (Ok tt)
begun c = rw c.sheet_length.ensures.0 at c.in_ok-begins.ensures

pub returns-in_err-begins : goal.returns-in_err-begins
returns-in_err-begins c =
    let p = err_from_is_err_and c.from_residual.result c.from_residual.ensures.1 in
    rw (p.1, p.2) (frame_begun _ _ _ _ _ _ _ (rw c.sheet_length.ensures.0 at c.in_err-begins.ensures))

pub byte-requires : goal.byte-requires
unfolding Begun
byte-requires c = omega (arith, (begun c).0)

pub returns-then-byte-round : goal.returns-then-byte-round
returns-then-byte-round c = frame_number _ _ _ _ _ _ (begun (goal.at.returns-then-byte-round c).In_ok-begins) (λ e. c.if-byte-round.true (c.byte.ensures ∙ e))

pub returns : goal.returns
returns c = frame_sound _ _ _ _ _ _ (begun (goal.at.returns c).In_ok-begins) (sym c.byte.ensures ∙ c.if-byte-round.false)
