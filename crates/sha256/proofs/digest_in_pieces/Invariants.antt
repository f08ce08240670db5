use Rattle.std.proofs.Common.{◌≡◌, ◌≤◌, length, drop}
use Rattle.sha256.specs.Stream.{empty, feed_all, pieces_from}
use Rattle.sha256.specs.Feed.{stream_of}
use Rattle.sha256.proofs.digest_in_pieces.Given as goal

abbrev pub invariant-loop-cut : goal.invariant-loop-cut
invariant-loop-cut l = (l.at ≤ length l.message) × (feed_all (stream_of l.h) (pieces_from l.message l.at (drop l.cut-index l.cuts)) ≡ feed_all empty (pieces_from l.message 0 l.cuts))
