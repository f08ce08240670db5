-- A list in parts of one length.
use Prim.Native.Nat.{ℕ, zero, suc, ◌*◌, ◌<◌}
use mathlib.Core.Path.{◌≡◌, refl, ap, ◌∙◌}
use mathlib.Core.List.{List}
use native.Mathlib.Nat.{suc-mul, zero-mul}
use native.Mathlib.Omega.{arith}
use lib.ListN.{length, get_or, take, drop}
use lib.Seq.{drop-drop}
use Rattle.std.specs.Simd.{first_chunks}
use Rattle.rules.specs.Bytes.{part}
use Rattle.rules.specs.Receipts.{digest_count}
use Rattle.digests.specs.Order.{Listed}

chunk_at : (n k : ℕ) (xs : List ℕ) (i : ℕ) (d : List ℕ) → i < k → get_or (first_chunks n k xs) i d ≡ part xs (i * n) n
chunk_at n zero xs i d l = absurd (omega arith)
chunk_at n (suc k) xs zero d l = rw zero-mul
chunk_at n (suc k) xs (suc i) d l =
    chunk_at n k (drop n xs) i d (omega arith) ∙ ap (take n) (drop-drop (i * n) n xs ∙ ap (λ (j : ℕ). drop j xs) (omega (arith, suc-mul i n)))

chunks_long : (n k : ℕ) (xs : List ℕ) → length (first_chunks n k xs) ≡ k
chunks_long n zero xs = refl
chunks_long n (suc k) xs = ap (λ (j : ℕ). suc j) (chunks_long n k (drop n xs))

pub listed : (digests : List ℕ) → Listed digests (first_chunks 32 (digest_count digests) digests)
listed digests = record { long = chunks_long 32 (digest_count digests) digests; at = chunk_at 32 (digest_count digests) digests }
