-- A message fed in pieces (02, L4): what is held of it between them, and the pieces that cuts make.
use Rattle.std.specs.Prelude.{ℕ, ◌+◌, ◌-◌, ◌*◌, ◌/◌, ◌%◌, ◌^◌, cond, ◌&&◌, List, [], ◌∷◌, ◌++◌, length, take, drop, nat_le}
use Rattle.compression.specs.Block.{H₀}
use Rattle.sha256.specs.Message.{padding, blocks, bytes}

-- the hash value after the whole blocks, the bytes behind them, which wait for the rest of their block, and the number of bytes modulo 2 ^ 64
pub record Stream : Type 0 where
  pub value : List ℕ
  pub waiting : List ℕ
  pub total : ℕ

-- nothing has been fed
unfoldable pub empty : Stream
empty = record { value = H₀; waiting = []; total = 0 }

-- a piece goes behind what waits: whole blocks are hashed, the rest waits
unfoldable pub feed : Stream → List ℕ → Stream
feed s piece =
    let all = s.waiting ++ piece in
    let n = length all / 64 in
    record { value = blocks s.value all n; waiting = drop (n * 64) all; total = (s.total + length piece) % 2 ^ 64 }

-- pieces, one after another
unfoldable pub feed_all : Stream → List (List ℕ) → Stream
feed_all s [] = s
feed_all s (p ∷ ps) = feed_all (feed s p) ps

-- the digest: the padding is the last piece
unfoldable pub digest_of : Stream → List ℕ
digest_of s = bytes (feed s (padding s.total)).value

-- the pieces of a message from a place on: each ends where the next cut says. A cut that lies before the one before it or past the end, and all behind
-- it, are no cuts, and the rest of the message is the last piece. Equal cuts have an empty piece between them.
unfoldable pub pieces_from : (m : List ℕ) (at : ℕ) (cuts : List ℕ) → List (List ℕ)
pieces_from m at [] = drop at m ∷ []
pieces_from m at (c ∷ cs) = cond (nat_le at c && nat_le c (length m)) (take (c - at) (drop at m) ∷ pieces_from m c cs) (drop at m ∷ [])
