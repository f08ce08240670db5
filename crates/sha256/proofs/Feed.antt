-- What has been fed to a hasher, from what its functions promise.
use Rattle.std.proofs.Common.{◌≡◌, ℕ, List, [], ◌++◌, sym, ap, ◌∙◌}
use Rattle.sha256.specs.Message.{sha256}
use Rattle.sha256.specs.Stream.{Stream, empty, feed, digest_of}
use Rattle.sha256.specs.Feed.{stream_of, Fed}
use Rattle.sha256.specs.declared.Hasher.{Hasher}
use Rattle.sha256.proofs.Blocks.{feed_feed}
use Rattle.sha256.proofs.Pieces.{feed_none, digest_fed}

module _ (h : Hasher) where
  -- the first piece
  pub fed_first : (k : Hasher) (p : List ℕ) → stream_of h ≡ empty → stream_of k ≡ feed (stream_of h) p → Fed k p
  unfolding Fed
  fed_first k p e d = d ∙ ap (λ (s : Stream). feed s p) e

  pub fed_none : stream_of h ≡ empty → Fed h []
  unfolding Fed
  fed_none e = e ∙ sym feed_none

  module _ (m : List ℕ) (f : Fed h m) where
    pub fed_more : (k : Hasher) (p : List ℕ) → stream_of k ≡ feed (stream_of h) p → Fed k (m ++ p)
    unfolding Fed
    fed_more k p e = e ∙ ap (λ (s : Stream). feed s p) f ∙ feed_feed empty m p

    pub fed_digest : (r : List ℕ) → r ≡ digest_of (stream_of h) → r ≡ sha256 m
    unfolding Fed
    fed_digest r e = e ∙ ap digest_of f ∙ digest_fed m
