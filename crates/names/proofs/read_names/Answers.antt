use Prim.Native.Nat.{◌+◌}
use mathlib.Core.Path.{◌≡◌, refl, sym, ap, ◌∙◌}
use native.Mathlib.Omega.{arith}
use lib.ListN.{length, length-drop}
use Rattle.std.specs.Prelude.{is_some}
use Rattle.rules.specs.Notice.{name_from, name_length, name_fits}
use Rattle.rules.proofs.Names.{name_fits_lem}
use Rattle.names.specs.Lent.{Started}
use Rattle.names.proofs.Counting.{from_place}
use Rattle.names.proofs.Comparing.{some_if}
use Rattle.names.proofs.Starting.{next_start, started_none, started_more, not_fitting, not_ended, good_if_different}
use Rattle.names.proofs.read_names.Goals.{After-loop-i, After-fits}
use Rattle.names.proofs.read_names.Goals as goal

-- the letters that were counted, and whether they are a name
long : (c : goal.After-fits) → c.letters-letters.result ≡ name_length c.args.lent.now c.loop-i.i
long c = rw (← c.loop-i.invariant.1, ← from_place c.args.lent.now c.loop-i.at) c.letters-letters.ensures.0

tested : (c : goal.After-fits) → c.fits.result ≡ name_fits c.args.lent.now c.loop-i.i
tested c = rw (← long c, ← c.loop-i.invariant.1) c.fits.ensures

pub loop-i-init : goal.loop-i-init
unfolding name_from
loop-i-init c = (omega arith, refl, omega arith, started_none _ _ refl refl)

pub fits-requires : goal.fits-requires
fits-requires c = let e = from_place c.args.lent.now c.loop-i.at in omega (arith, c.letters-letters.ensures.1, length-drop c.loop-i.at c.args.lent.now, c.loop-i.invariant.2, ap length e)

pub returns-then-not-fits-clause-good : goal.returns-then-not-fits-clause-good
returns-then-not-fits-clause-good c = sym (not_fitting _ _ c.loop-i.i (omega arith) (sym (tested (goal.at.returns-then-not-fits-clause-good c).After-fits) ∙ c.if-not-fits.true))

pub loop-i-preserved : goal.loop-i-preserved
loop-i-preserved c =
    let lent = c.args.lent.now in
    let l = c.loop-i in
    let fit = sym (tested (goal.at.loop-i-preserved c).After-fits) ∙ c.if-not-fits.false in
    let f = name_fits_lem lent l.i fit in
    let k = long (goal.at.loop-i-preserved c).After-fits in
    let next : l.at + (c.letters-letters.result + 1) ≡ name_from lent (l.i + 1) = omega (arith, next_start lent l.i, l.invariant.1, k) in
    (omega arith, next, omega (arith, f.inside, l.invariant.1, k), started_more lent l.starts l.i _ l.invariant.3 (omega arith) fit next)

-- past the last name
all_read : (c : goal.After-loop-i) → c.loop-i.i ≡ c.args.n
all_read c = omega arith

pub returns-then-at-lent-clause-good : goal.returns-then-at-lent-clause-good
returns-then-at-lent-clause-good c =
    let e = all_read (goal.at.returns-then-at-lent-clause-good c).After-loop-i in
    sym (not_ended _ _ (λ q. c.if-at-lent.true (c.loop-i.invariant.1 ∙ rw e q)))

pub returns-clause-good : goal.returns-clause-good
returns-clause-good c =
    let e = all_read (goal.at.returns-clause-good c).After-loop-i in
    let lent = c.args.lent.now in
    let w : Started lent c.args.n c.loop-i.starts = rw (← e) c.loop-i.invariant.3 in
    let end : name_from lent c.args.n ≡ length lent = rw (← e) (sym c.loop-i.invariant.1 ∙ c.if-at-lent.false) in
    let good = c.all_different.ensures ∙ sym (good_if_different lent c.args.n c.loop-i.starts w end) in
    ap is_some c.then_some.ensures ∙ some_if c.all_different.result _ ∙ good
