use mathlib.Core.Path.{◌≡◌, sym, ◌∙◌}
use native.Mathlib.Omega.{arith}
use Rattle.rules.specs.Sentences.{bytes}
use Rattle.names.proofs.Starting.{name_few}
use Rattle.sentences.proofs.Listing.{count_at_lem, listing_none, listing_out, listing_in, comma_fits, next_fits}
use Rattle.sentences.proofs.counts.put_counts.Goals as goal

pub loop-i-init : goal.loop-i-init
loop-i-init g c = (omega arith, listing_none _ _ _ _ _)

pub loop-i-preserved-then-is_out : goal.loop-i-preserved-then-is_out
loop-i-preserved-then-is_out g c = (omega arith, listing_out _ _ _ _ _ c.loop-i.invariant.1 (sym c.is_out.ensures ∙ c.if-is_out.true))

pub put-requires : goal.put-requires
put-requires g c = comma_fits _ _ _ _ _ c.loop-i.invariant.1 c.args.names.now.count (omega arith) (sym c.is_out.ensures ∙ c.if-is_out.false) c.requires.1

pub put_count-requires : goal.put_count-requires
put_count-requires g c =
    let names = c.args.names.now in
    let fits = next_fits _ _ _ _ _ c.loop-i.invariant.1 names.count (omega arith) (sym c.is_out.ensures ∙ c.if-is_out.false) c.requires.1 c.put.ensures in
    rw (← c.name.ensures, ← count_at_lem names.count c.loop-i.i c.args.sheet.counts (omega arith)) at fits

pub loop-i-preserved : goal.loop-i-preserved
unfolding bytes
loop-i-preserved g c =
    let names = c.args.names.now in
    let put = rw (c.name.ensures, count_at_lem names.count c.loop-i.i c.args.sheet.counts (omega arith)) at c.put_count.ensures.taken in
    let few = rw (c.name.ensures, count_at_lem names.count c.loop-i.i c.args.sheet.counts (omega arith)) at c.put_count.ensures.few in
    let short = name_few names.lent.now names.starts names.count c.loop-i.i names.started (omega arith) in
    (omega arith, listing_in _ _ _ _ _ c.loop-i.invariant.1 (sym c.is_out.ensures ∙ c.if-is_out.false) c.put.ensures put few short)

pub returns : goal.returns
returns g c =
    let p = c.loop-i.invariant.1 in
    let e : c.loop-i.i ≡ c.args.names.now.count = omega arith in
    record { taken = rw e at p.taken; few = rw e at p.few }
