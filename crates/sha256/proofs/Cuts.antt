-- Laws of the walk over cuts.
use Rattle.std.proofs.Common.{◌≡◌, ℕ, ◌+◌, ◌-◌, ◌<◌, ◌≤◌, List, length, get_or, take, drop, refl, add-one, drop_of_length-le, drop-cons, le-leb}
use mathlib.Core.Bool.{and-false}
use borrow.Author.Tests.{lt-leb}
use Rattle.sha256.specs.Stream.{Stream, feed, feed_all, pieces_from}

module _ (s : Stream) (m cuts : List ℕ) (i at : ℕ) where
  -- the piece up to a cut is fed
  pub piece_more : i < length cuts → at ≤ get_or cuts i 0 → get_or cuts i 0 ≤ length m →
      feed_all (feed s (take (get_or cuts i 0 - at) (drop at m))) (pieces_from m (get_or cuts i 0) (drop (i + 1) cuts)) ≡ feed_all s (pieces_from m at (drop i cuts))
  unfolding feed_all pieces_from
  piece_more h rises ends = rw (add-one i, drop-cons cuts i 0 h, le-leb at (get_or cuts i 0) rises, le-leb (get_or cuts i 0) (length m) ends) refl

  -- the rest of the message is the last piece: behind the last cut, and at one that falls or lies past the end
  pub behind_last : length cuts ≤ i → feed_all s (pieces_from m at (drop i cuts)) ≡ feed s (drop at m)
  unfolding feed_all pieces_from
  behind_last h = rw (drop_of_length-le cuts {i = i} h) refl

  module _ (h : i < length cuts) where
    pub at_falling : get_or cuts i 0 < at → feed_all s (pieces_from m at (drop i cuts)) ≡ feed s (drop at m)
    unfolding feed_all pieces_from
    at_falling f = rw (drop-cons cuts i 0 h, lt-leb at (get_or cuts i 0) f) refl

    pub at_past : length m < get_or cuts i 0 → feed_all s (pieces_from m at (drop i cuts)) ≡ feed s (drop at m)
    unfolding feed_all pieces_from
    at_past f = rw (drop-cons cuts i 0 h, lt-leb (get_or cuts i 0) (length m) f, and-false) refl
