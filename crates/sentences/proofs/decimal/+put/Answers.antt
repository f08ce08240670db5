use Prim.Native.Nat.{◌%◌, ◌+◌}
use mathlib.Core.List.{[], ◌∷◌}
use native.Mathlib.Omega.{arith}
use Rattle.sentences.proofs.Numbers.{ahead, ahead_some, ahead_none, digits_are, decimal_few, less}
use Rattle.sentences.proofs.decimal.+put.Goals.{then-more, else-more, Joined-more}
use Rattle.sentences.proofs.decimal.+put.Goals as goal

pub put-requires : goal.put-requires
put-requires g t c κs within =
    let x = c.args.x in
    (omega (arith, c.decreases, less x), (within, rw (ahead_some x (omega arith)) (g.met.S.Sink.laws.front _ (ahead x) _ (rw (digits_are x) at c.requires))))

-- what stands ahead of the last digit is taken
taken : (g : _) (t : _) (c : goal.Joined-more g t) → g.S.Sink.took c.args.sink.now (ahead c.args.x) c.if-more.sink
taken g t c =
    let x = c.args.x in
    elim c.if-more.branch [ then-more w ↦ rw (w.sink-is, ← ahead_some x (omega arith)) w.put.ensures.taken | else-more w ↦ rw (w.sink-is, ← ahead_none x (omega arith)) (g.met.S.Sink.laws.none _) ]

pub put-requires-2 : goal.put-requires-2
put-requires-2 g t c =
    let x = c.args.x in
    g.met.S.Sink.laws.rest _ _ (ahead x) ((48 + x % 10) ∷ []) (rw (digits_are x) at c.requires) (taken g t (goal.at.put-requires-2 g t c).Joined-more)

pub returns : goal.returns
returns g t c =
    let x = c.args.x in
    record {
      taken = rw (digits_are x) (g.met.S.Sink.laws.both _ _ _ _ _ (taken g t (goal.at.returns g t c).Joined-more) c.put-2.ensures);
      few = decimal_few 9 x (omega (arith, c.ranges.x));
    }
