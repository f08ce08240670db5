use Prim.Native.Nat.{◌-◌}
use mathlib.Core.Path.{◌≡◌, refl, ◌∙◌}
use native.Mathlib.Omega.{arith}
use Rattle.boards.proofs.rounds.plan_of.Goals.{then-m-eq0, else-m-eq0}
use Rattle.boards.proofs.rounds.plan_of.Goals as goal

pub returns : goal.returns
returns c =
    let f = c.args in
    let g = c.first_of-gone.ensures in
    elim c.if-m-eq0.branch [
      | then-m-eq0 w ↦ let e = w.if-m-eq0.true in record {
        round = refl;
        before_listed = rw w.a-is g.1;
        gone_listed = g.1;
        gone = g.2;
        first = λ z. rw w.a-is (g.2 ∙ rw e, refl);
        later = λ j z. absurd (omega arith);
        older = refl;
        newer = refl;
        out = refl;
        sheet = λ n counts h. h _;
      }
      | else-m-eq0 w ↦ let b = w.first_of.ensures in record {
        round = refl;
        before_listed = rw w.a-is b.1;
        gone_listed = g.1;
        gone = g.2;
        first = λ z. absurd (w.if-m-eq0.false z);
        later = λ j z. let e : f.m - 1 ≡ j = omega arith in rw w.a-is (b.2 ∙ rw e, rw e);
        older = refl;
        newer = refl;
        out = refl;
        sheet = λ n counts h. h _;
      }
    ]
