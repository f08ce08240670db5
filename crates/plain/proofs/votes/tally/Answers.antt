use Prim.Native.Nat.{ℕ, suc, ◌*◌}
use lib.Dec.{eqb}
use mathlib.Core.Path.{◌≡◌, refl, sym, ◌∙◌}
use mathlib.Core.Bool.{Bool}
use native.Mathlib.Omega.{arith}
use borrow.Author.Tests.{eq-eqb, ne_eqb}
use lib.ListN.{get_or}
use mathlib.Core.List.{List}
use Rattle.rules.specs.Bytes.{part}
use Rattle.rules.specs.Records.{is_counted}
use Rattle.count.specs.State.{list_of}
use Rattle.numbers.proofs.Tables.{zero_everywhere as zeros}
use Rattle.plain.proofs.Firsts.{one, votes_more, votes_passed, votes_none, counts_are}
use Rattle.plain.proofs.votes.tally.Goals.{else-counted, then-counted}
use Rattle.plain.proofs.votes.tally.Goals as goal

pub loop-b-init : goal.loop-b-init
loop-b-init c = (refl, λ i h. rw (zeros 8 i) (omega arith), λ i h. zeros 8 i ∙ sym (votes_none _ _ _ _ (suc i)))

pub loop-b-preserved : goal.loop-b-preserved
loop-b-preserved c =
    let l = c.loop-b in
    let f = c.args in
    let gone = list_of f.gone in
    let p : ℕ → Bool = λ d. is_counted (get_or f.kinds.now d 0) in
    let r : ℕ → List ℕ = λ d. part f.rankings.now (d * f.n) f.n in
    (elim c.if-counted.branch [
      | then-counted w ↦ let e = eq-eqb (get_or f.kinds.now l.b 0) 0 (sym c.from-counted.ensures ∙ w.if-counted.true) in
          let v = w.vote.ensures in (
            rw w.counts-is v.0,
            λ i h. rw (w.counts-is, v.1 i h) (omega (arith, l.invariant.1 i h, one (eqb w.first_in.result (suc i)))),
            λ i h. rw w.counts-is (v.1 i h ∙ rw (l.invariant.2 i h, w.first_in.ensures) (sym (votes_more f.n gone p r l.b (suc i) e))),
          )
      | else-counted w ↦ let e = ne_eqb (get_or f.kinds.now l.b 0) 0 (λ z. w.if-counted.false (c.from-counted.ensures ∙ z)) in (
        rw w.counts-is l.invariant.0,
        λ i h. rw w.counts-is (omega (arith, l.invariant.1 i h)),
        λ i h. rw w.counts-is (l.invariant.2 i h ∙ sym (votes_passed f.n gone p r l.b (suc i) e)),
      )
    ])

pub returns : goal.returns
returns c =
    let l = c.loop-b in
    let f = c.args in
    let e : l.b ≡ f.k = omega arith in
    counts_are l.counts f.n (list_of f.gone) _ l.invariant.0 (omega (arith, c.requires)) (rw (← e) l.invariant.2)
