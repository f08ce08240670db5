use mathlib.Core.Bool.{cond}
use mathlib.Core.List.{◌++◌, [], ◌∷◌}
use Rattle.rules.specs.Sentences.{bytes}
use Rattle.sentences.proofs.parts.put_ending.Goals as goal

pub put-requires : goal.put-requires
unfolding bytes
put-requires g c =
    let laws = g.met.S.Sink.laws in
    let a = c.args in
    laws.front _ _ a.name.now (laws.front _ _ (cond a.last (bytes " wins.") (bytes " leaves.")) (laws.front _ _ (10 ∷ []) c.requires))

pub put-requires-2 : goal.put-requires-2
unfolding bytes
put-requires-2 g c =
    let laws = g.met.S.Sink.laws in
    let a = c.args in
    laws.rest _ _ (bytes "; ") a.name.now (laws.front _ _ (cond a.last (bytes " wins.") (bytes " leaves.")) (laws.front _ _ (10 ∷ []) c.requires)) c.put.ensures

pub put-requires-3 : goal.put-requires-3
unfolding bytes
put-requires-3 g c =
    let laws = g.met.S.Sink.laws in
    let a = c.args in
    rw (← c.verb.ensures) at
    (laws.rest _ _ (bytes "; " ++ a.name.now) (cond a.last (bytes " wins.") (bytes " leaves.")) (laws.front _ _ (10 ∷ []) c.requires) (laws.both _ _ _ _ _ c.put.ensures c.put-2.ensures))

pub put-requires-4 : goal.put-requires-4
unfolding bytes
put-requires-4 g c =
    let laws = g.met.S.Sink.laws in
    laws.rest _ _ (bytes "; " ++ c.args.name.now ++ c.verb.result.now) (10 ∷ []) (rw c.verb.ensures c.requires) (laws.both _ _ _ _ _ (laws.both _ _ _ _ _ c.put.ensures c.put-2.ensures) c.put-3.ensures)

pub returns : goal.returns
unfolding bytes
returns g c =
    let laws = g.met.S.Sink.laws in
    rw (← c.verb.ensures) (laws.both _ _ _ _ _ (laws.both _ _ _ _ _ (laws.both _ _ _ _ _ c.put.ensures c.put-2.ensures) c.put-3.ensures) c.put-4.ensures)
