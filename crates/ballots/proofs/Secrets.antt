-- Sums of secrets, one more at a time, and the witnesses of a shift.
use Prim.Native.Nat.{ℕ, suc, ◌+◌, ◌*◌, ◌-◌, ◌/◌, ◌%◌, ◌≤◌, ◌<◌}
use mathlib.Core.Path.{◌≡◌, ap, ◌∙◌}
use mathlib.Core.Bool.{cond}
use mathlib.Core.Logic.{⊎_elim}
use mathlib.Core.List.{List}
use native.Mathlib.Nat.{mod-lt, div-lt_iff_lt-mul, eq-or-lt_of_le, mul-le-mul_left, mod-mod, div-add-mod'}
use native.Mathlib.Numerals.{add-one}
use native.Mathlib.Omega.{arith}
use borrow.Author.Tests.{eq-eqb, ne_eqb}
use lib.Dec.{eqb}
use lib.ListN.{length, get_or, set, length-set}
use lib.Seq.{get_or-set_same, get_or-set_other}
use Rattle.numbers.specs.Below.{sum_below}
use Rattle.numbers.proofs.Sums.{sum_same}
use Rattle.group.specs.declared.Exponent.{Exponent}
use Rattle.rules.specs.Claims.{source}
use Rattle.statements.specs.Lines.{line_start, line_stride}
use Rattle.statements.proofs.Lines.{by_row, by_column, row_or_column, row_below, row_cell, column_cell}
use Rattle.jobs.proofs.Matrices.{source_below}
use Rattle.ballots.specs.Parts.{line_sum, sum_but, Witnessed}
use Rattle.jobs.specs.Records.{secret_at, shift_witness}

module _ (draws : List ℕ) (at stride but i sum : ℕ) (e : sum ≡ sum_but draws at stride i but) where
  pub sum_more : (i ≡ but → ⊥) → sum + get_or draws (at + stride * i) 0 ≡ sum_but draws at stride (i + 1) but
  unfolding sum_but sum_below
  sum_more h = rw (e, add-one, ne_eqb i but h)

  pub sum_passed : i ≡ but → sum ≡ sum_but draws at stride (i + 1) but
  unfolding sum_but sum_below
  sum_passed h = e ∙ rw (add-one, eq-eqb i but h) (omega arith)

pub stride_up : (stride i count : ℕ) → i < count → stride * i ≤ stride * (count - 1)
stride_up stride i count h = mul-le-mul_left stride (omega arith)

-- the secrets of a line
pub line_sum_lem : (draws : List ℕ) (from n t : ℕ) →
    sum_but draws (from + line_start n t) (line_stride n t) n n ≡ line_sum draws from n t
unfolding sum_but
line_sum_lem draws from n t =
    let row : ℕ → ℕ = λ i. sum_below n (λ j. secret_at n draws from i j) in
    let column : ℕ → ℕ = λ j. sum_below n (λ i. secret_at n draws from i j) in
    row_or_column n t
    (λ h. rw (by_row n row column t h)
    (sum_same n _ _ (λ j l. let e : from + line_start n t + line_stride n t * j ≡ from + (t * n + j) = omega (arith, row_cell n t j h) in rw (ne_eqb j n (λ e. omega arith), e))))
    (λ h. rw (by_column n row column t h)
    (sum_same n _ _ (λ i l. let e : from + line_start n t + line_stride n t * i ≡ from + (i * n + (t - n)) = omega (arith, column_cell n t i h) in rw (ne_eqb i n (λ e. omega arith), e))))

-- the witnesses, one by one
module _ (q n : ℕ) (draws : List ℕ) (old new a l : ℕ) where
  pub witness_first : (x : ℕ) → x ≡ get_or draws (old + l * n + a) 0 → x % q ≡ shift_witness q n draws old new a l 0 % q
  unfolding shift_witness
  witness_first x e = let p : old + l * n + a ≡ old + (l * n + a) = omega arith in rw (e, p)

  pub witness_second : (x : ℕ) → x ≡ sum_but draws (old + l * n) 1 n a % q → x % q ≡ shift_witness q n draws old new a l 1 % q
  unfolding shift_witness sum_but
  witness_second x e =
      let s : sum_below n (λ i. cond (eqb i a) 0 (get_or draws (old + l * n + 1 * i) 0)) ≡ sum_below n (λ j. cond (eqb j a) 0 (secret_at n draws old l j)) =
      sum_same n _ _ (λ j h. let p : old + l * n + 1 * j ≡ old + (l * n + j) = omega arith in rw p) in
      rw (e, s, mod-mod)

  pub witness_later : (c x : ℕ) → x ≡ (get_or draws (new + c) 0 + (q - get_or draws (old + (source l (c / n) * n + c % n)) 0)) % q →
      x % q ≡ shift_witness q n draws old new a l (2 + c) % q
  unfolding shift_witness
  witness_later c x e = let two : 2 + c ≡ suc (suc c) = omega arith in rw (two, e, mod-mod, div-add-mod' c n)

  pub witnessed_more : (c : ℕ) (x : Exponent) (s : List Exponent) → Witnessed q n draws old new a l c s → c < 64 → x.0 % q ≡ shift_witness q n draws old new a l c % q →
      Witnessed q n draws old new a l (c + 1) (set s c x)
  witnessed_more c x s w h e =
      record {
        long = length-set s c x ∙ w.long;
        each = λ i k.
            ⊎_elim (λ (m : i ≡ c). rw m (ap (λ (y : Exponent). y.0 % q) (get_or-set_same s c x _ (omega (arith, w.long))) ∙ e))
            (λ (m : i < c). ap (λ (y : Exponent). y.0 % q) (get_or-set_other s c i x _ (λ z. omega arith)) ∙ w.each i m)
            (eq-or-lt_of_le {n = i} {m = c} (omega arith));
      }

  pub witnessed_none : (s : List Exponent) → length s ≡ 64 → Witnessed q n draws old new a l 0 s
  witnessed_none s e = record { long = e; each = λ i h. absurd (omega arith) }

-- the pair before that a new pair comes from is within the matrix before
pub source_within : (n rows l c : ℕ) → 0 < n → c < rows * n → source l (c / n) * n + c % n < (rows + 1) * n
source_within n rows l c some h =
    let low : c / n < rows = (div-lt_iff_lt-mul some).1 h in
    let w : source l (c / n) * n + n ≤ (rows + 1) * n = row_below (rows + 1) n (source l (c / n)) (source_below l (c / n) rows low) in
    omega (arith, mod-lt c some)
