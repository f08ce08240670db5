use mathlib.Core.Path.{sym, ◌∙◌}
use native.Mathlib.Omega.{arith}
use Rattle.sheets.proofs.SheetSteps.{due_closed, due_open, wrong_out, closed, opened}
use Rattle.sheets.proofs.counted.Goals as goal

pub returns-then-out-ne0 : goal.returns-then-out-ne0
returns-then-out-ne0 c = wrong_out _ _ _ _ _ _ 0 (due_closed _ _ _ _ (sym c.closes.ensures ∙ c.if-closes.true)) (λ z. omega arith)

pub returns-then-closes : goal.returns-then-closes
returns-then-closes c =
    let w = c.close-ended.ensures in
    closed _ _ _ _ _ _ (sym c.closes.ensures ∙ c.if-closes.true) (omega arith) _ w.0 w.1 w.2

pub returns-then-out-leaves : goal.returns-then-out-leaves
returns-then-out-leaves c =
    wrong_out _ _ _ _ _ _ _ (due_open _ _ _ _ (sym c.closes.ensures ∙ c.if-closes.false) _ c.leaves-leaves.ensures.0) (λ z. omega arith)

pub returns : goal.returns
returns c =
    let out = c.leaves-leaves.ensures in
    let after = c.next.ensures in
    opened _ _ _ _ _ _ (sym c.closes.ensures ∙ c.if-closes.false) _ out.0 out.1 (omega arith) _ after.0 after.1 (after.2 _)
