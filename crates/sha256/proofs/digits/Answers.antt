use Rattle.std.proofs.Common.{◌≡◌, sym, ap, ◌∙◌, arith, take_all, rules}
use Rattle.std.proofs.lemmas.Slice.{overwrites}
use Rattle.sha256.specs.Message.{bytes}
use Rattle.sha256.proofs.Tail.{bytes_more}
use Rattle.sha256.proofs.digits.Goals as goal

pub loop-i-init : goal.loop-i-init
unfolding bytes
loop-i-init c = search rules

pub loop-i-preserved : goal.loop-i-preserved
loop-i-preserved c =
    let l = c.loop-i in
    (search (rules, overwrites), bytes_more c.args.state l.out l.i _ _ (omega (arith, c.well_formed)) (omega arith) l.invariant.1 (c.copy_from_slice.ensures.after ∙ c.to_be_bytes.ensures))

pub returns : goal.returns
returns c =
    let l = c.loop-i in
    let s = c.args.state in
    let e : l.i ≡ 8 = omega arith in
    sym (take_all 32 l.out (omega arith)) ∙ rw e at l.invariant.1 ∙ ap bytes (take_all 8 s (omega (arith, c.well_formed)))
