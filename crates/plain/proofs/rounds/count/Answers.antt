use Prim.Native.Nat.{◌-◌, ◌*◌}
use mathlib.Core.Path.{◌≡◌, sym, ◌∙◌}
use native.Mathlib.Omega.{arith}
use lib.ListN.{get_or}
use Rattle.rules.specs.Bytes.{part}
use Rattle.rules.specs.Records.{is_counted}
use Rattle.rules.specs.Count.{plain_count}
use Rattle.rules.proofs.Leaving.{not_last}
use Rattle.rules.proofs.Lists.{length_where}
use Rattle.count.specs.State.{standing_of}
use Rattle.count.proofs.Picks.{sheets_many}
use Rattle.plain.proofs.Counted.{count_goes, count_ends, far}
use Rattle.plain.proofs.rounds.count.Invariants.{ranked}
use Rattle.plain.proofs.rounds.count.Goals as goal

pub loop-count-init : goal.loop-count-init
unfolding plain_count
loop-count-init c =
    let f = c.args in
    let w = c.new-count.ensures in
    let z : f.n - 0 ≡ f.n = omega arith in
    let many = length_where f.k (λ b. is_counted (get_or f.kinds.now b 0)) (λ b. part f.rankings.now (b * f.n) f.n) in
    (w.1, omega (arith, w.0, c.requires), rw (w.2 f.n, w.0, z), many ∙ sym c.counted-counted.ensures.0)

pub returns-then-closes : goal.returns-then-closes
returns-then-closes c =
    let l = c.loop-count in
    let f = c.args in
    let w = c.close.ensures in
    let e = count_ends f.n _ (ranked f.rankings.now f.kinds.now f.n f.k) l.count _ _ l.invariant.3 (omega (arith, l.invariant.1)) l.invariant.2 c.tally-sheet.ensures (sym c.closes.ensures ∙ c.if-closes.true) in
    (w.2 ∙ sym e, w.1, rw w.0 l.invariant.1)

pub loop-count-preserved : goal.loop-count-preserved
loop-count-preserved c =
    let l = c.loop-count in
    let f = c.args in
    let h = c.next-count.ensures in
    let no = sym c.closes.ensures ∙ c.if-closes.false in
    let last = not_last f.n _ (standing_of f.n l.count) _ _ (sheets_many f.n l.count l.invariant.0) no in (
      h.1,
      rw h.0 (far l.count.gone.outs f.n l.invariant.1 last),
      count_goes f.n _ (ranked f.rankings.now f.kinds.now f.n f.k) l.count _ _ l.invariant.3 (omega (arith, l.invariant.1)) l.invariant.2 c.tally-sheet.ensures no
          ∙ rw (h.2 f.n, c.leaves.ensures.0, h.0),
      l.invariant.3,
    )
