-- The law of pieces.
use Prim.Native.Nat.{ℕ, ◌+◌, ◌≤◌, ◌<◌}
use mathlib.Core.List.{List}
use mathlib.Core.Path.{◌≡◌, refl, ap}
use mathlib.Core.Bool.{Bool, true, false}
use native.Mathlib.Omega.{arith}
use lib.Dec.{leb}
use lib.ListN.{length}
use borrow.Author.Tests.{leb-true, le-leb, lt-leb}
use Rattle.rules.specs.Bytes.{number4}
use Rattle.testing.specs.Input.{piece_if, piece_at}
use Rattle.std.specs.Prelude.{Option, Some, None}

there : (b : Bool) (p : Option (ℕ × ℕ)) (start end : ℕ) → piece_if b p ≡ Some (start, end) → (b ≡ true) × (p ≡ Some (start, end))
there true p start end e = (refl, e)
there false p start end e = (cc, cc)

module _ (s : List ℕ) (at : ℕ) where
  -- the length is cut off
  pub no_length : length s < at + 4 → None ≡ piece_at s at
  no_length h = rw (lt-leb (at + 4) (length s) h)

  -- the bytes are
  pub no_bytes : at + 4 ≤ length s → length s < at + 4 + number4 s at → None ≡ piece_at s at
  no_bytes h k = rw (le-leb (at + 4) (length s) h, lt-leb (at + 4 + number4 s at) (length s) k)

  -- neither is
  pub found : (w : ℕ) → w ≡ number4 s at → at + 4 + w ≤ length s → Some (at + 4, at + 4 + w) ≡ piece_at s at
  found w e h = rw (e, le-leb (at + 4) (length s) (omega arith), le-leb (at + 4 + number4 s at) (length s) (rw e at h))

  -- a piece that is there stands behind its place, within the input
  pub within : (start end : ℕ) → piece_at s at ≡ Some (start, end) → (start ≡ at + 4) × (start ≤ end) × (end ≤ length s)
  within start end e =
      let f = there (leb (at + 4) (length s)) (piece_if (leb (at + 4 + number4 s at) (length s)) (Some (at + 4, at + 4 + number4 s at))) start end e in
      let g = there (leb (at + 4 + number4 s at) (length s)) (Some (at + 4, at + 4 + number4 s at)) start end f.1 in
      let q : ◌≡◌ {A = ℕ × ℕ} (start, end) (at + 4, at + 4 + number4 s at) = cc in
      let h : start ≡ at + 4 = ap (λ (p : ℕ × ℕ). p.0) q in
      let k : end ≡ at + 4 + number4 s at = ap (λ (p : ℕ × ℕ). p.1) q in
      let b = leb-true (at + 4 + number4 s at) (length s) g.0 in
      (h, omega arith, omega arith)
