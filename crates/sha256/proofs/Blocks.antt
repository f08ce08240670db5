-- Laws of blocks and of pieces: what follows a message changes none of its whole blocks, and a piece behind another is one piece.
use Rattle.std.proofs.Common.{◌≡◌, ℕ, zero, suc, ◌+◌, ◌*◌, ◌/◌, ◌%◌, ◌^◌, ◌≤◌, List, ◌++◌, length, take, drop, sym, refl, ap, ◌∙◌, ap₂, append_assoc, arith, length-append, length-drop, drop-drop}
use native.Mathlib.Numerals.{unary_clauses}
use lib.Seq.{take-append-le, drop-append-le}
use Rattle.compression.specs.Block.{compress}
use Rattle.sha256.specs.Message.{blocks}
use Rattle.sha256.specs.Stream.{Stream, feed}

pub blocks_append : (v m x : List ℕ) (n : ℕ) → n * 64 ≤ length m → blocks v (m ++ x) n ≡ blocks v m n
unfolding blocks
blocks_append v m x zero h = refl
blocks_append v m x (suc n) h =
    let h64 : 64 ≤ length (drop (n * 64) m) = omega (arith, length-drop (n * 64) m) in
    ap₂ compress
    (blocks_append v m x n (omega arith))
    (ap (take 64) (drop-append-le (n * 64) m x (omega arith)) ∙ take-append-le 64 (drop (n * 64) m) x h64)

-- blocks go on where they stopped
pub blocks_on : (v m : List ℕ) (n k : ℕ) → blocks (blocks v m n) (drop (n * 64) m) k ≡ blocks v m (n + k)
unfolding blocks
blocks_on v m n zero = simp unary_clauses refl
blocks_on v m n (suc k) =
    let at : n * 64 + k * 64 ≡ (n + k) * 64 = omega arith in
    simp unary_clauses (ap₂ compress (blocks_on v m n k) (ap (take 64) (drop-drop (k * 64) (n * 64) m ∙ ap (λ (j : ℕ). drop j m) at)))

module _ (v b x : List ℕ) where
  abbrev n : ℕ
  n = length b / 64

  abbrev rest : List ℕ
  rest = drop (n * 64) b ++ x

  rest_is : rest ≡ drop (n * 64) (b ++ x)
  rest_is = sym (drop-append-le (n * 64) b x (omega arith))

  count : length (b ++ x) / 64 ≡ n + length rest / 64
  count = omega (arith, length-append b x, length-append (drop (n * 64) b) x, length-drop (n * 64) b)

  on_value : blocks (blocks v b n) rest (length rest / 64) ≡ blocks v (b ++ x) (length (b ++ x) / 64)
  on_value =
      ap₂ (λ (w r : List ℕ). blocks w r (length rest / 64)) (sym (blocks_append v b x n (omega arith))) rest_is
      ∙ blocks_on v (b ++ x) n (length rest / 64) ∙ ap (blocks v (b ++ x)) (sym count)

  on_rest : drop (length rest / 64 * 64) rest ≡ drop (length (b ++ x) / 64 * 64) (b ++ x)
  on_rest =
      let at : n * 64 + length rest / 64 * 64 ≡ length (b ++ x) / 64 * 64 = omega (arith, count) in
      ap (drop (length rest / 64 * 64)) rest_is ∙ drop-drop (length rest / 64 * 64) (n * 64) (b ++ x) ∙ ap (λ (j : ℕ). drop j (b ++ x)) at

-- a piece behind another is one piece
pub feed_feed : (s : Stream) (p x : List ℕ) → feed (feed s p) x ≡ feed s (p ++ x)
unfolding feed
feed_feed s p x =
    let all : s.waiting ++ p ++ x ≡ s.waiting ++ (p ++ x) = append_assoc s.waiting p x in
    let value = on_value s.value (s.waiting ++ p) x ∙ ap (λ (m : List ℕ). blocks s.value m (length m / 64)) all in
    let waiting = on_rest s.value (s.waiting ++ p) x ∙ ap (λ (m : List ℕ). drop (length m / 64 * 64) m) all in
    let total : ((s.total + length p) % 2 ^ 64 + length x) % 2 ^ 64 ≡ (s.total + length (p ++ x)) % 2 ^ 64 = omega (arith, length-append p x) in
    λ i. record { value = value i; waiting = waiting i; total = total i }
