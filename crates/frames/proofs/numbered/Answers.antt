use mathlib.Core.Path.{sym, ◌∙◌}
use native.Mathlib.Omega.{arith}
use Rattle.std.proofs.Common.{rules}
use Rattle.frames.specs.Framed.{Begun}
use Rattle.frames.proofs.Framing.{frame_begun, frame_number, frame_sound}
use Rattle.frames.proofs.numbered.Goals as goal

pub returns-in_err-begins : goal.returns-in_err-begins
returns-in_err-begins c = search (rules, frame_begun)

pub number-requires : goal.number-requires
unfolding Begun
number-requires c = omega (arith, c.in_ok-begins.ensures.0)

pub returns-then-number-due : goal.returns-then-number-due
returns-then-number-due c = frame_number _ _ _ _ _ _ c.in_ok-begins.ensures (λ e. c.if-number-due.true (c.number.ensures ∙ e))

pub returns : goal.returns
returns c = frame_sound _ _ _ _ _ _ c.in_ok-begins.ensures (sym c.number.ensures ∙ c.if-number-due.false)
