use Prim.Native.Nat.{ℕ, ◌+◌, ◌<◌}
use mathlib.Core.Path.{◌≡◌, refl, sym, ap, ◌∙◌}
use native.Mathlib.Omega.{arith}
use borrow.Author.Tests.{eq-eqb, ne_eqb}
use lib.ListN.{length, get_or}
use Rattle.numbers.specs.Below.{sum_below}
use Rattle.numbers.proofs.Sums.{sum_more, sum_passed}
use Rattle.jobs.specs.Job.{record_draws}
use Rattle.boards.proofs.sheet.column_sum.Goals.{Then-kind-eq-COUNTED, else-kind-eq-COUNTED, then-kind-eq-COUNTED}
use Rattle.boards.proofs.sheet.column_sum.Goals as goal

pub loop-b-init : goal.loop-b-init
unfolding sum_below
loop-b-init c = (omega arith, omega arith, omega arith, omega arith, refl)

-- a counted ballot's draw is there
there : (c : goal.Then-kind-eq-COUNTED) → let f = c.args in c.loop-b.at < length f.entries.draws.now
there c =
    let l = c.loop-b in
    rw l.invariant.3 (c.requires.by_index l.b (omega arith) (eq-eqb (get_or c.args.entries.kinds.now l.b 0) 0 (sym c.from-kind.ensures ∙ c.if-kind-eq-COUNTED.true)))

pub loop-b-preserved : goal.loop-b-preserved
loop-b-preserved c =
    let l = c.loop-b in
    let f = c.args in
    let told = c.from-kind.ensures in
    let r = c.record_draws-at.ensures in
    let ahead : ℕ → ℕ = λ b. sum_below b (λ i. record_draws f.entries.head.n (get_or f.entries.kinds.now i 0) f.m) in
    let next = sum_more l.b (ahead l.b) _ (λ i. record_draws f.entries.head.n (get_or f.entries.kinds.now i 0) f.m) refl (r.0 ∙ rw told) in
    (elim c.if-kind-eq-COUNTED.branch [
      | then-kind-eq-COUNTED w ↦ let counted = eq-eqb (get_or f.entries.kinds.now l.b 0) 0 (sym told ∙ w.if-kind-eq-COUNTED.true) in
          let drawn : get_or f.entries.draws.now l.at 0 ≡ get_or f.entries.draws.now (f.from + ahead l.b) 0 = ap (λ (d : ℕ). get_or f.entries.draws.now d 0) l.invariant.3 in (
            omega arith,
            rw w.sum-is (omega (arith, l.invariant.1)),
            omega (arith, r.1, l.invariant.2),
            omega (arith, next, l.invariant.3),
            w.sum-is ∙ sum_more l.b l.sum _ _ l.invariant.4 (w.from-sum.ensures ∙ drawn ∙ rw counted),
          )
      | else-kind-eq-COUNTED w ↦ let audited = ne_eqb (get_or f.entries.kinds.now l.b 0) 0 (λ e. w.if-kind-eq-COUNTED.false (told ∙ e)) in (
        omega arith,
        rw w.sum-is (omega (arith, l.invariant.1)),
        omega (arith, r.1, l.invariant.2),
        omega (arith, next, l.invariant.3),
        w.sum-is ∙ sum_passed l.b l.sum _ l.invariant.4 (rw audited),
      )
    ])

pub returns : goal.returns
returns c = let l = c.loop-b in let e : l.b ≡ c.args.entries.head.k = omega arith in c.reduce.ensures ∙ rw (l.invariant.4, e)
