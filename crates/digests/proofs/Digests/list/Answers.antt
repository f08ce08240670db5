use Rattle.digests.proofs.Chunks.{listed}
use Rattle.digests.proofs.Digests.list.Goals as goal

pub returns : goal.returns
returns c = rw c.as_chunks.ensures.front (listed _)
