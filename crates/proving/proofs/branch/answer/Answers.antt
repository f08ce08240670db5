use mathlib.Core.Path.{◌≡◌, refl, ◌∙◌}
use native.Mathlib.Omega.{arith}
use Rattle.proving.specs.Plans.{answers}
use Rattle.proving.proofs.Branches.{branch_none, answer_more}
use borrow.Author.Rules.{rules}
use Rattle.proving.proofs.branch.answer.Goals as goal

pub loop-i-preserved : goal.loop-i-preserved
loop-i-preserved c =
    let l = c.loop-i in
    let f = c.args in
    let p = c.put_number4-in-loop-i.ensures in (
      omega arith,
      search rules,
      λ o n h. answer_more f.e.0 (answers f.q f.e.0 f.witness f.draws.now f.at) o l.i _ l.out _ refl (omega (arith, n, c.put_number4, c)) (l.invariant.2 o n h) (p ∙ rw c.response-r.ensures),
    )

pub returns : goal.returns
returns c =
    let l = c.loop-i in
    let e : l.i ≡ c.args.statements = omega arith in
    rw (← e) (l.invariant.2 _ (omega arith) c.put_number4.ensures)

pub loop-i-init : goal.loop-i-init
loop-i-init c = (omega arith, refl, λ o n h. h ∙ branch_none _ _ _ o)
