use mathlib.Core.Path.{refl}
use native.Mathlib.Omega.{arith}
use Rattle.sentences.proofs.Puts.{put_at}
use Rattle.sentences.proofs.sink.RestSink.put.Goals as goal

pub returns : goal.returns
returns c = (refl, put_at _ _ _ _ (omega arith) c.put_bytes.ensures)
