use borrow.Author.Rules.{rules}
use mathlib.Core.Path.{◌≡◌, refl, sym, ap, ◌∙◌}
use native.Mathlib.Omega.{arith}
use lib.ListN.{length-set}
use lib.Seq.{take_all}
use Rattle.vectors.specs.Hex.{hexadecimal}
use Rattle.vectors.proofs.Text.{more}
use Rattle.vectors.proofs.hexadecimal.Goals as goal

pub loop-i-init : goal.loop-i-init
unfolding hexadecimal
loop-i-init c = (search rules, refl, refl)

pub loop-i-preserved : goal.loop-i-preserved
loop-i-preserved c =
    let l = c.loop-i in
    (omega arith, simp length-set l.invariant.1, more c.args.bytes l.text l.i _ _ (omega (arith, c.well_formed)) (omega arith) l.invariant.2 c.digit.ensures c.digit-in-loop-i.ensures)

pub returns : goal.returns
returns c =
    let l = c.loop-i in
    let e : l.i ≡ 32 = omega arith in
    sym (take_all 64 l.text (omega arith)) ∙ rw e at l.invariant.2 ∙ ap hexadecimal (take_all 32 c.args.bytes (omega (arith, c.well_formed)))
