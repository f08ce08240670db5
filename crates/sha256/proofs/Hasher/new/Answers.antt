use Rattle.std.proofs.Common.{rules}
use Rattle.compression.specs.Block.{H₀}
use Rattle.sha256.specs.Stream.{empty}
use Rattle.sha256.specs.Feed.{stream_of}
use Rattle.sha256.proofs.Hasher.new.Goals as goal

pub returns : goal.returns
unfolding H₀ stream_of empty
returns c = search rules
