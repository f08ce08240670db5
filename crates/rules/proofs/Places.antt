-- What is read where a list stands in another.
use Prim.Native.Nat.{ℕ, zero, suc, ◌+◌, ◌*◌, ◌/◌, ◌%◌, ◌<◌}
use native.Mathlib.Nat.{add_assoc, add-zero, zero-add, mod-eq_of_lt, div-add-mod', not-suc-le-zero, eq-or-lt_of_le, le_of_suc-le-suc, div-div-eq-div-mul, div-lt_iff_lt-mul}
use native.Mathlib.Omega.{arith}
use mathlib.Core.Path.{◌≡◌, refl, sym, ◌∙◌}
use mathlib.Core.List.{List, [], ◌∷◌, ◌++◌}
use mathlib.Core.Logic.{◌⊎◌, inl, inr}
use lib.ListN.{length, get_or, drop, length-append, get_or-append, length-take, length-drop}
use lib.Seq.{get_or-append-add, get_or-drop, get_or-take, ext_get_or}
use Rattle.numbers.specs.Below.{sum_below, concat_below}
use Rattle.numbers.proofs.Blocks.{length_blocks, length_joined}
use Rattle.rules.specs.Bytes.{part, number2, number4, bytes2, bytes4, Stands}

pub stands_whole : (s : List ℕ) → Stands s 0 s
stands_whole s = record { fits = omega arith; same = λ d h. rw zero-add }

module _ {s : List ℕ} {at : ℕ} (x y : List ℕ) where
  pub stands_left : Stands s at (x ++ y) → Stands s at x
  stands_left h =
      let e : length (x ++ y) ≡ length x + length y = length-append x y in
      record { fits = omega (arith, h.fits); same = λ d l. h.same d (omega arith) ∙ get_or-append x y 0 d l }

  pub stands_right : {k : ℕ} → length x ≡ k → Stands s at (x ++ y) → Stands s (at + k) y
  stands_right {k} e h =
      let e' : length (x ++ y) ≡ length x + length y = length-append x y in
      record { fits = omega (arith, h.fits); same = λ d l. rw (add_assoc, ← e) (h.same (length x + d) (omega arith) ∙ get_or-append-add x y d 0) }

pub stands_moved : {s x : List ℕ} {at at' : ℕ} → at ≡ at' → Stands s at x → Stands s at' x
stands_moved e h = rw e at h

pub stands_block : {s : List ℕ} {at : ℕ} (k w : ℕ) (f : ℕ → List ℕ) → ((i : ℕ) → i < k → length (f i) ≡ w) →
    Stands s at (concat_below k f) → (i : ℕ) → i < k → Stands s (at + i * w) (f i)
unfolding concat_below
stands_block zero w f e h i l = absurd (not-suc-le-zero l)
stands_block {s} {at} (suc k) w f e h i l = go (stands_block k w f below (stands_left (concat_below k f) _ h) i) (eq-or-lt_of_le (le_of_suc-le-suc l))
  where
    below : (j : ℕ) → j < k → length (f j) ≡ w
    below j g = e j (omega arith)

    go : (i < k → Stands s (at + i * w) (f i)) → (i ≡ k) ⊎ (i < k) → Stands s (at + i * w) (f i)
    go rec (inl q) = rw q (stands_right (concat_below k f) (f k) (length_blocks k w f below) h)
    go rec (inr g) = rec g

-- lists of any lengths, one after another
pub stands_piece : {s : List ℕ} {at : ℕ} (k : ℕ) (f : ℕ → List ℕ) → Stands s at (concat_below k f) →
    (i : ℕ) → i < k → Stands s (at + sum_below i (λ j. length (f j))) (f i)
unfolding concat_below
stands_piece zero f h i l = absurd (not-suc-le-zero l)
stands_piece {s} {at} (suc k) f h i l = go (stands_piece k f (stands_left (concat_below k f) _ h) i) (eq-or-lt_of_le (le_of_suc-le-suc l))
  where
    go : (i < k → Stands s (at + sum_below i (λ j. length (f j))) (f i)) → (i ≡ k) ⊎ (i < k) → Stands s (at + sum_below i (λ j. length (f j))) (f i)
    go rec (inl q) = rw q (stands_right (concat_below k f) (f k) (length_joined k f) h)
    go rec (inr g) = rec g

-- four digits to the base 256
digits : (x x1 x2 x3 r0 r1 r2 : ℕ) → x1 * 256 + r0 ≡ x → x2 * 256 + r1 ≡ x1 → x3 * 256 + r2 ≡ x2 → x3 * 16777216 + r2 * 65536 + r1 * 256 + r0 ≡ x
digits x x1 x2 x3 r0 r1 r2 a b c = omega arith

module _ {s : List ℕ} {at : ℕ} where
  pub byte_stands : {c : ℕ} {x : List ℕ} → Stands s at (c ∷ x) → get_or s at 0 ≡ c
  byte_stands h = rw add-zero at (h.same 0 (omega arith))

  pub part_stands : {x : List ℕ} {k : ℕ} → length x ≡ k → Stands s at x → part s at k ≡ x
  part_stands {x} {k} e h =
      let e1 : length (part s at k) ≡ k = simp (length-take, length-drop) (omega (arith, h.fits)) in
      ext_get_or 0 (part s at k) x (e1 ∙ sym e)
      (λ i l. get_or-take k (drop at s) i 0 (omega arith) ∙ get_or-drop at s i 0 ∙ h.same i (omega arith))

  pub half_stands : {x : ℕ} → x < 65536 → Stands s at (bytes2 x) → number2 s at ≡ x
  half_stands {x} l h =
      let e0 : get_or s at 0 ≡ x / 256 % 256 = rw add-zero at (h.same 0 (omega arith)) in
      let e1 : get_or s (at + 1) 0 ≡ x % 256 = h.same 1 (omega arith) in
      rw (e0, e1) (omega arith)

  pub word_stands : {x : ℕ} → x < 4294967296 → Stands s at (bytes4 x) → number4 s at ≡ x
  word_stands {x} l h =
      let e0 : get_or s at 0 ≡ x / 16777216 % 256 = rw add-zero at (h.same 0 (omega arith)) in
      let e1 : get_or s (at + 1) 0 ≡ x / 65536 % 256 = h.same 1 (omega arith) in
      let e2 : get_or s (at + 2) 0 ≡ x / 256 % 256 = h.same 2 (omega arith) in
      let e3 : get_or s (at + 3) 0 ≡ x % 256 = h.same 3 (omega arith) in
      let d1 : x / 256 / 256 ≡ x / 65536 = div-div-eq-div-mul x 256 256 in
      let d2 : x / 65536 / 256 ≡ x / 16777216 = div-div-eq-div-mul x 65536 256 in
      let m : x / 16777216 % 256 ≡ x / 16777216 = mod-eq_of_lt ((div-lt_iff_lt-mul {x = x} (omega arith)).1 l) in
      rw (e0, e1, e2, e3, m)
      (digits x (x / 256) (x / 65536) (x / 16777216) (x % 256) (x / 256 % 256) (x / 65536 % 256) (div-add-mod' x 256)
      (rw (← d1) (div-add-mod' (x / 256) 256)) (rw (← d2) (div-add-mod' (x / 65536) 256)))

-- a list is its places, one after another
pub places_joined : (n : ℕ) (r : List ℕ) → length r ≡ n → concat_below n (λ i. get_or r i 0 ∷ []) ≡ r
places_joined n r e =
    let f : ℕ → List ℕ = λ i. get_or r i 0 ∷ [] in
    let long : length (concat_below n f) ≡ n * 1 = length_blocks n 1 f (λ _ _. refl) in
    let at : (i : ℕ) → i * 1 ≡ i = λ i. omega arith in
    ext_get_or 0 (concat_below n f) r (omega arith)
    (λ i l. rw (zero-add (i * 1), at i) at (byte_stands (stands_block n 1 f (λ _ _. refl) (stands_whole (concat_below n f)) i (omega arith))))
