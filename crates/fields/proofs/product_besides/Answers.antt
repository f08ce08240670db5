use Prim.Native.Nat.{ℕ, ◌+◌, ◌*◌}
use mathlib.Core.Path.{refl}
use Rattle.numbers.specs.Below.{prod_below}
use Rattle.rules.specs.Bytes.{number4}
use Rattle.fields.proofs.Products.{prod_more, prod_skip}
use Rattle.fields.proofs.product_besides.Goals.{else-j-out, then-j-out}
use Rattle.fields.proofs.product_besides.Goals as goal

pub loop-j-init : goal.loop-j-init
unfolding prod_below
loop-j-init c = refl

pub loop-j-preserved : goal.loop-j-preserved
loop-j-preserved c =
    let a = c.args in
    let f : ℕ → ℕ = λ j. number4 a.s.now (a.at + a.stride * j) in
    elim c.if-j-out.branch [
      | then-j-out w ↦ prod_more a.p a.out _ f _ _ w.if-j-out.true c.loop-j.invariant (rw (w.r-is, ← w.as_element.ensures) w.mul-r.ensures)
      | else-j-out w ↦ rw w.r-is (prod_skip a.p a.out _ f _ w.if-j-out.false c.loop-j.invariant)
    ]
