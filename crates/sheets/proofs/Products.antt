-- The products of columns with one row more.
use Prim.Native.Nat.{ℕ, ◌+◌, ◌*◌, ◌≤◌, ◌<◌}
use mathlib.Core.Path.{◌≡◌, refl, ap, ◌∙◌}
use mathlib.Core.List.{List}
use native.Mathlib.Nat.{zero-mul, zero-add}
use native.Mathlib.Omega.{arith}
use lib.ListN.{length, set, length-set}
use lib.Seq.{get_or-set_same, get_or-set_other}
use borrow.Author.Count.{below_more}
use Rattle.numbers.proofs.Residues.{mul_mod_left}
use Rattle.group.specs.Arithmetic.{mul_mod}
use Rattle.group.specs.declared.Element.{Element}
use Rattle.rules.specs.Bytes.{number4}
use Rattle.rules.specs.Claims.{matrix_at}
use Rattle.rules.specs.Sheet as said
use Rattle.sheets.specs.declared.tally.Tally.{Tally}
use Rattle.sheets.specs.Tallies.{element_of, Tallied}

-- the first i columns have their word of the row
pub record Rowed (p : ℕ) (word : ℕ → ℕ) (before after : List Element) (i : ℕ) : Type 0 where
  pub long : length after ≡ length before
  pub done : length before ≡ 8 → (j : ℕ) → j < i → element_of after j ≡ mul_mod p (element_of before j) (word j)
  pub ahead : (j : ℕ) → i ≤ j → element_of after j ≡ element_of before j

module _ (p : ℕ) (word : ℕ → ℕ) where
  pub rowed_none : (xs : List Element) → Rowed p word xs xs 0
  rowed_none xs = record { long = refl; done = λ e j b. absurd (omega arith); ahead = λ j _. refl }

  pub rowed_more : {before after : List Element} {i : ℕ} (x : Element) → Rowed p word before after i → i < 8 →
      (w : ℕ) → w ≡ word i → x.0 ≡ mul_mod p (element_of after i) w → Rowed p word before (set after i x) (i + 1)
  rowed_more {before} {after} {i} x r l w d e =
      record {
        long = simp length-set r.long;
        done = λ f.
            below_more _ _
            (λ j b. ap (λ (y : Element). y.0) (get_or-set_other after i j x _ (λ z. omega arith)) ∙ r.done f j b)
            (ap (λ (y : Element). y.0) (get_or-set_same after i x _ (omega (arith, r.long))) ∙ e ∙ rw (d, r.ahead i (omega arith)));
        ahead = λ j b. ap (λ (y : Element). y.0) (get_or-set_other after i j x _ (λ z. omega arith)) ∙ r.ahead j (omega arith);
      }

pub tallied_fewer : {p m n : ℕ} {t : Tally} {T : said.Tally} → n ≤ m → Tallied p m t T → Tallied p n t T
tallied_fewer l h =
    record { b_long = h.b_long; y_long = h.y_long; b_is = λ i b. h.b_is i (omega arith); y_is = λ i b. h.y_is i (omega arith) }

pub with_row_lem : (s : List ℕ) (p n at : ℕ) (t : Tally) (b y : List Element) (ballots : ℕ) → Rowed p (λ j. number4 s (at + 8 * j)) t.b b n →
    Rowed p (λ j. number4 s (at + 8 * j + 4)) t.y y n → (T : said.Tally) → Tallied p n t T →
    Tallied p n (record { b = b; y = y; ballots = ballots }) (said.with_row T (matrix_at s n at))
unfolding matrix_at
with_row_lem s p n at t b y ballots rb ry T h =
    record {
      b_long = rb.long ∙ h.b_long;
      y_long = ry.long ∙ h.y_long;
      b_is = λ i l. rb.done h.b_long i l ∙ rw (h.b_is i l, zero-mul, zero-add) (mul_mod_left (T.b i) _ p);
      y_is = λ i l. ry.done h.y_long i l ∙ rw (h.y_is i l, zero-mul, zero-add) (mul_mod_left (T.y i) _ p);
    }
