-- 02, L4: "a message of up to 65,536 bytes fed in pieces, however cut, has the digest of the whole", and "at most one block of 64 bytes waits". Here for
-- messages of any length, those of up to 65,536 bytes among them.
use Rattle.std.specs.Prelude.{◌≡◌, ℕ, ◌+◌, ◌<◌, ◌≤◌, List, [], length, take, slice_index_or}
use mathlib.Core.List.{flatten}
use Rattle.sha256.specs.Message.{sha256}
use Rattle.sha256.specs.Stream.{empty, feed, feed_all, digest_of, pieces_from}
use Rattle.sha256.specs.Feed.{stream_of}
use Rattle.sha256.specs.declared.Hasher.{Hasher}

-- a new hasher h 0, and after piece i the one that `update` made of h i: what the contracts of `new` and `update` say of these calls
pub record Calls (ps : List (List ℕ)) (h : ℕ → Hasher) : Type 0 where
  pub first : stream_of (h 0) ≡ empty
  pub next : (i : ℕ) → i < length ps → stream_of (h (i + 1)) ≡ feed (stream_of (h i)) (slice_index_or ps i [])

-- ps is any list of pieces, empty ones among them
pub record Pieces : Type 0 where
  -- the digest is that of the whole
  pub whole : (ps : List (List ℕ)) → digest_of (feed_all empty ps) ≡ sha256 (flatten ps)
  -- fewer than 64 bytes wait
  pub few_wait : (ps : List (List ℕ)) → length (feed_all empty ps).waiting < 64
  -- nothing of the cuts remains
  pub no_trace : (ps : List (List ℕ)) → feed_all empty ps ≡ feed empty (flatten ps)
  -- the same of hashers: what `finish` returns behind the last piece
  pub of_calls : (ps : List (List ℕ)) (h : ℕ → Hasher) → Calls ps h → (digest : List ℕ) → digest ≡ digest_of (stream_of (h (length ps))) → digest ≡ sha256 (flatten ps)
  -- and what is held between the calls: every whole block of the bytes so far is hashed, and fewer than 64 bytes wait behind them
  pub between_calls : (ps : List (List ℕ)) (h : ℕ → Hasher) → Calls ps h → (i : ℕ) → i ≤ length ps →
      (stream_of (h i) ≡ feed empty (flatten (take i ps))) × (length (stream_of (h i)).waiting < 64)
  -- whatever the cuts are, all of the message is fed
  pub all_fed : (m cuts : List ℕ) → flatten (pieces_from m 0 cuts) ≡ m
