use Prim.Native.Nat.{◌+◌}
use mathlib.Core.List.{◌++◌}
use Rattle.rules.specs.Sentences.{bytes, decimal}
use Rattle.sentences.proofs.parts.put_opening.Goals as goal

pub put-requires : goal.put-requires
unfolding bytes
put-requires g c =
    let laws = g.met.S.Sink.laws in
    laws.front _ _ (decimal (c.args.m + 1)) (laws.front _ _ (bytes ": ") c.requires.1)

pub put-requires-2 : goal.put-requires-2
unfolding bytes
put-requires-2 g c =
    let laws = g.met.S.Sink.laws in
    laws.rest _ _ (bytes "Round ") (decimal (c.args.m + 1)) (laws.front _ _ (bytes ": ") c.requires.1) c.put.ensures

pub put-requires-3 : goal.put-requires-3
unfolding bytes
put-requires-3 g c =
    let laws = g.met.S.Sink.laws in
    laws.rest _ _ (bytes "Round " ++ decimal (c.args.m + 1)) (bytes ": ") c.requires.1 (laws.both _ _ _ _ _ c.put.ensures c.put-2.ensures.taken)

pub returns-clause-taken : goal.returns-clause-taken
unfolding bytes
returns-clause-taken g c = let laws = g.met.S.Sink.laws in laws.both _ _ _ _ _ (laws.both _ _ _ _ _ c.put.ensures c.put-2.ensures.taken) c.put-3.ensures
