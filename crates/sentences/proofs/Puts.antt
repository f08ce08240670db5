-- A text written into the unwritten rest of an output.
use Prim.Native.Nat.{ℕ, ◌+◌, ◌-◌, ◌≤◌}
use mathlib.Core.Path.{◌≡◌, refl, ◌∙◌}
use mathlib.Core.List.{List}
use native.Mathlib.Omega.{arith}
use lib.ListN.{length, take, length-append, length-drop}
use lib.Seq.{length-take-le}
use borrow.Rule.Slice.PartMut.{mid_of, put_mid}
use Rattle.output.specs.Written.{written}
use Rattle.output.proofs.Laws.{rest_is, put_rest, more}
use Rattle.sentences.specs.Pieces.{Put}

-- the rest is lent, and b written to its front
pub put_at : (b l r : List ℕ) (at : ℕ) → at + length b ≤ length l → r ≡ written b (mid_of at (length l - at) l) → Put b at l (put_mid at (length l - at) l r) (at + length b)
unfolding written
put_at b l r at h e =
    let k : at ≤ length l = omega arith in
    let front : length (take at l) ≡ at = length-take-le at l k in
    let rest : length r ≡ length l - at = rw (e, rest_is at l k) (simp (length-append, length-drop) (omega arith)) in
    record {
      ends = refl;
      long = rw (put_rest at l r k) (length-append (take at l) r ∙ omega (arith, front, rest));
      puts = λ w o n w_is. more w b o l r at n w_is e;
    }
