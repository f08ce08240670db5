use mathlib.Core.Path.{◌≡◌, sym, ◌∙◌}
use mathlib.Core.Bool.{false, true≢false}
use mathlib.Core.Logic.{⊎_elim}
use native.Mathlib.Omega.{arith}
use borrow.Author.Rules.{rules}
use borrow.Author.Tests.{eqb-true, eq-eqb}
use Rattle.rules.specs.Receipts.{digests_good}
use Rattle.digests.proofs.Chunks.{listed}
use Rattle.digests.proofs.Good.{bytes_left, too_many, by_order, sorted}
use Rattle.digests.proofs.digests_good.Goals as goal

pub returns-then-list-le500 : goal.returns-then-list-le500
returns-then-list-le500 c =
    let d = c.args.lent.now in
    let w = c.if-list-le500.true in
    sorted d _ (rw c.as_chunks.ensures.front (listed d)) _ c.is_sorted.ensures.cases
    ∙ sym (by_order d (sym c.as_chunks.ensures.back_len ∙ eqb-true _ 0 (sym c.is_empty.ensures ∙ w.0)) (omega (arith, c.as_chunks.ensures.front_len, w.1)))

pub returns-else-list-le500 : goal.returns-else-list-le500
returns-else-list-le500 c =
    let d = c.args.lent.now in
    let bad : digests_good d ≡ false =
    ⊎_elim (λ w. too_many d (sym c.as_chunks.ensures.back_len ∙ eqb-true _ 0 (sym c.is_empty.ensures ∙ w.0)) (omega (arith, c.as_chunks.ensures.front_len, w.1)))
    (λ w. bytes_left d (λ e. true≢false (sym (eq-eqb _ 0 (c.as_chunks.ensures.back_len ∙ e)) ∙ sym c.is_empty.ensures ∙ w)))
    c.if-list-le500.either in
    rw bad (search rules)
