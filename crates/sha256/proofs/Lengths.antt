-- A digest has 32 bytes.
use Rattle.std.proofs.Common.{◌≡◌, ℕ, zero, suc, ◌*◌, ◌/◌, List, [], ◌∷◌, length, refl, ap, ◌∙◌, arith}
use Rattle.compression.specs.Block.{H₀, sums, compress}
use Rattle.sha256.specs.Message.{padded, blocks, bytes, sha256}

eight_words : (m : List ℕ) (n : ℕ) → length (blocks H₀ m n) ≡ 8
unfolding blocks H₀ compress sums
eight_words m zero = refl
eight_words m (suc n) = refl

four_bytes : (ws : List ℕ) → length (bytes ws) ≡ length ws * 4
unfolding bytes
four_bytes [] = refl
four_bytes (w ∷ ws) = let e = four_bytes ws in omega arith

pub digest_long : (m : List ℕ) → length (sha256 m) ≡ 32
unfolding sha256
digest_long m = four_bytes _ ∙ ap (λ (n : ℕ). n * 4) (eight_words (padded m) (length (padded m) / 64))
