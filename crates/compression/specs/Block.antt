-- FIPS 180-4, 4.2.2, 5.3.3 and 6.2.2: the constants, the message schedule, a round, and one block of 64 bytes.
-- A hash value, the eight working variables a .. h, is a list of eight words.
use Rattle.std.specs.Prelude.{ℕ, zero, suc, ◌+◌, ◌*◌, ◌^◌, List, [], ◌∷◌, ◌++◌, slice_index}
use Rattle.compression.specs.Words.{◌⊞◌, Ch, Maj, Σ₀, Σ₁, σ₀, σ₁}

unfoldable pub K : List ℕ
K =
    0x428a2f98 ∷ 0x71374491 ∷ 0xb5c0fbcf ∷ 0xe9b5dba5 ∷ 0x3956c25b ∷ 0x59f111f1 ∷ 0x923f82a4 ∷ 0xab1c5ed5 ∷
    0xd807aa98 ∷ 0x12835b01 ∷ 0x243185be ∷ 0x550c7dc3 ∷ 0x72be5d74 ∷ 0x80deb1fe ∷ 0x9bdc06a7 ∷ 0xc19bf174 ∷
    0xe49b69c1 ∷ 0xefbe4786 ∷ 0x0fc19dc6 ∷ 0x240ca1cc ∷ 0x2de92c6f ∷ 0x4a7484aa ∷ 0x5cb0a9dc ∷ 0x76f988da ∷
    0x983e5152 ∷ 0xa831c66d ∷ 0xb00327c8 ∷ 0xbf597fc7 ∷ 0xc6e00bf3 ∷ 0xd5a79147 ∷ 0x06ca6351 ∷ 0x14292967 ∷
    0x27b70a85 ∷ 0x2e1b2138 ∷ 0x4d2c6dfc ∷ 0x53380d13 ∷ 0x650a7354 ∷ 0x766a0abb ∷ 0x81c2c92e ∷ 0x92722c85 ∷
    0xa2bfe8a1 ∷ 0xa81a664b ∷ 0xc24b8b70 ∷ 0xc76c51a3 ∷ 0xd192e819 ∷ 0xd6990624 ∷ 0xf40e3585 ∷ 0x106aa070 ∷
    0x19a4c116 ∷ 0x1e376c08 ∷ 0x2748774c ∷ 0x34b0bcb5 ∷ 0x391c0cb3 ∷ 0x4ed8aa4a ∷ 0x5b9cca4f ∷ 0x682e6ff3 ∷
    0x748f82ee ∷ 0x78a5636f ∷ 0x84c87814 ∷ 0x8cc70208 ∷ 0x90befffa ∷ 0xa4506ceb ∷ 0xbef9a3f7 ∷ 0xc67178f2 ∷ []

unfoldable pub H₀ : List ℕ
H₀ =
    0x6a09e667 ∷ 0xbb67ae85 ∷ 0x3c6ef372 ∷ 0xa54ff53a ∷ 0x510e527f ∷ 0x9b05688c ∷ 0x1f83d9ab ∷ 0x5be0cd19 ∷ []

infixl 80 ◌!◌
-- what stands at a place of a list
abbrev pub ◌!◌ : List ℕ → ℕ → ℕ
l ! i = slice_index l i

-- the i-th word of a block: four bytes, the first is the highest
unfoldable pub word : List ℕ → ℕ → ℕ
word b i = b ! (i * 4) * 2 ^ 24 + b ! (i * 4 + 1) * 2 ^ 16 + b ! (i * 4 + 2) * 2 ^ 8 + b ! (i * 4 + 3)

-- the first n words of a block
unfoldable pub words : List ℕ → ℕ → List ℕ
words b zero = []
words b (suc n) = words b n ++ (word b n ∷ [])

-- the word of the schedule at 16 + n, from those before it
unfoldable pub next : List ℕ → ℕ → ℕ
next ws n = σ₁ (ws ! (n + 14)) ⊞ ws ! (n + 9) ⊞ σ₀ (ws ! (n + 1)) ⊞ ws ! n

-- the first 16 + n words of the schedule
unfoldable pub schedule : List ℕ → ℕ → List ℕ
schedule b zero = words b 16
schedule b (suc n) = let ws = schedule b n in ws ++ (next ws n ∷ [])

unfoldable pub T₁ : ℕ → ℕ → ℕ → ℕ → ℕ → ℕ → ℕ
T₁ e f g h k w = h ⊞ Σ₁ e ⊞ Ch e f g ⊞ k ⊞ w

unfoldable pub T₂ : ℕ → ℕ → ℕ → ℕ
T₂ a b c = Σ₀ a ⊞ Maj a b c

-- one round: the new a is T₁ + T₂, the new e is d + T₁, and the others move on
unfoldable pub round : ℕ → ℕ → List ℕ → List ℕ
round k w s =
    T₁ (s ! 4) (s ! 5) (s ! 6) (s ! 7) k w ⊞ T₂ (s ! 0) (s ! 1) (s ! 2) ∷
    s ! 0 ∷ s ! 1 ∷ s ! 2 ∷
    s ! 3 ⊞ T₁ (s ! 4) (s ! 5) (s ! 6) (s ! 7) k w ∷
    s ! 4 ∷ s ! 5 ∷ s ! 6 ∷ []

-- the first n rounds
unfoldable pub rounds : List ℕ → List ℕ → ℕ → List ℕ
rounds ws s zero = s
rounds ws s (suc n) = round (K ! n) (ws ! n) (rounds ws s n)

unfoldable pub sums : List ℕ → List ℕ → List ℕ
sums s t =
    s ! 0 ⊞ t ! 0 ∷ s ! 1 ⊞ t ! 1 ∷ s ! 2 ⊞ t ! 2 ∷ s ! 3 ⊞ t ! 3 ∷
    s ! 4 ⊞ t ! 4 ∷ s ! 5 ⊞ t ! 5 ∷ s ! 6 ⊞ t ! 6 ∷ s ! 7 ⊞ t ! 7 ∷ []

-- the hash value after a block, from that before it
unfoldable pub compress : List ℕ → List ℕ → List ℕ
compress s b = sums s (rounds (schedule b 48) s 64)
