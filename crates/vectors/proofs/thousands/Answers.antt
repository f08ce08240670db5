use borrow.Author.Rules.{rules}
use mathlib.Core.Path.{◌≡◌, refl}
use Prim.Native.Nat.{◌+◌, ◌*◌}
use native.Mathlib.Omega.{arith}
use lib.ListN.{replicate-append-replicate}
use Rattle.sha256.proofs.Feed.{fed_none, fed_more, fed_digest}
use Rattle.vectors.proofs.thousands.Goals as goal

pub loop-preserved : goal.loop-preserved
loop-preserved c =
    let l = c.loop in
    let b = c.args.byte in
    let e : (l.counter + 1) * 1000 ≡ l.counter * 1000 + 1000 = omega arith in
    (omega arith, rw (e, ← replicate-append-replicate (l.counter * 1000) 1000 b) (fed_more _ _ l.invariant.1 _ _ c.update-h.ensures), refl)

pub loop-init : goal.loop-init
loop-init c = (search rules, fed_none _ c.new-h.ensures, refl)

pub returns : goal.returns
returns c = let l = c.loop in let e : l.counter ≡ c.args.n = omega arith in fed_digest _ _ (rw e at l.invariant.1) _ c.finish.ensures
