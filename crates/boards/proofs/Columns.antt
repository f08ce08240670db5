-- A sheet column by column.
use Prim.Native.Nat.{ℕ, ◌+◌, ◌*◌, ◌-◌, ◌%◌, ◌<◌}
use mathlib.Core.Path.{◌≡◌, refl, ap, ◌∙◌}
use mathlib.Core.Bool.{cond}
use mathlib.Core.List.{List, [], ◌∷◌, ◌++◌, append_assoc}
use native.Mathlib.Omega.{arith}
use borrow.Rule.Slice.PartMut.{mid_of, put_mid}
use lib.ListN.{length, get_or, length-append}
use Rattle.numbers.specs.Below.{concat_below, sum_below}
use Rattle.numbers.proofs.Blocks.{blocks_same, length_blocks}
use Rattle.numbers.proofs.Sums.{sum_same}
use Rattle.rules.specs.Bytes.{bytes2, bytes4}
use Rattle.rules.specs.Records.{RT, is_counted}
use Rattle.jobs.specs.Records.{column_sum, sheet_column, sheet_bytes}
use Rattle.output.specs.Written.{written}
use Rattle.output.proofs.Laws.{more, blocks_more}

-- a column's secrets, as the code goes through them: ahead of ballot b's record are so many draws of its round
pub column_is : (q n K : ℕ) (kind : ℕ → ℕ) (draws : List ℕ) (start : ℕ) (ahead : ℕ → ℕ) (i : ℕ) →
    sum_below K (λ b. cond (is_counted (kind b)) (get_or draws (start + i + ahead b) 0) 0) ≡ column_sum q n K kind draws (λ b. start + ahead b) i
column_is q n K kind draws start ahead i =
    sum_same K _ _ (λ b h.
    let e : start + i + ahead b ≡ start + ahead b + (0 * n + i) = omega arith in
    ap (λ (d : ℕ). cond (is_counted (kind b)) (get_or draws d 0) 0) e)

module _ (q n K : ℕ) (kind : ℕ → ℕ) (draws : List ℕ) (from : ℕ → ℕ) (counts : List ℕ) where
  -- the first so many columns
  abbrev pub columns_to : (i : ℕ) → List ℕ
  columns_to i = concat_below i (sheet_column q n K kind draws from counts)

  -- behind the four bytes that a sheet starts with
  pub columns_more : (front : List ℕ) (i a s : ℕ) (o l x : List ℕ) → length front ≡ 4 → a ≡ 4 + 6 * i → s ≡ column_sum q n K kind draws from i % q →
      l ≡ written (front ++ columns_to i) o → x ≡ written (bytes2 (get_or counts i 0) ++ bytes4 s) (mid_of a (length l - a) l) →
      put_mid a (length l - a) l x ≡ written (front ++ columns_to (i + 1)) o
  columns_more front i a s o l x four ea es el ex =
      let b = length_blocks i 6 (sheet_column q n K kind draws from counts) (λ i h. refl) in
      let long : length (front ++ columns_to i) ≡ a = simp length-append (omega arith) in
      more (front ++ columns_to i) _ o l x a long el (rw es at ex) ∙ rw (blocks_more (sheet_column q n K kind draws from counts) i, append_assoc)

  pub sheet_whole : (m out round : ℕ) → round ≡ m + 1 → RT ++ (round ∷ out ∷ []) ++ columns_to n ≡ sheet_bytes q n K kind draws from m out counts
  unfolding sheet_bytes
  sheet_whole m out round e = rw e

  -- of the counts those of the n processes alone are written
  pub sheet_same : (m out : ℕ) (counts' : List ℕ) → ((i : ℕ) → i < n → get_or counts i 0 ≡ get_or counts' i 0) →
      sheet_bytes q n K kind draws from m out counts ≡ sheet_bytes q n K kind draws from m out counts'
  unfolding sheet_bytes
  sheet_same m out counts' h = ap (λ (l : List ℕ). RT ++ ((m + 1) ∷ out ∷ []) ++ l) (blocks_same n _ _ (λ i l. rw (h i l)))
