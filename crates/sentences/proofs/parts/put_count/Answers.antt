use Rattle.rules.specs.Sentences.{bytes}
use Rattle.sentences.proofs.parts.put_count.Goals as goal

pub returns-clause-taken : goal.returns-clause-taken
unfolding bytes
returns-clause-taken g c = let laws = g.met.S.Sink.laws in laws.both _ _ _ _ _ (laws.both _ _ _ _ _ c.put.ensures c.put-2.ensures) c.put-3.ensures.taken
