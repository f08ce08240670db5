-- Rows and columns as lines.
use Prim.Native.Nat.{ℕ, ◌+◌, ◌*◌, ◌-◌, ◌≤◌, ◌<◌}
use mathlib.Core.Path.{◌≡◌, ap₂, ◌∙◌}
use mathlib.Core.Bool.{Bool, ◌&&◌}
use mathlib.Core.List.{List, ◌++◌}
use native.Mathlib.Nat.{mul-le-mul_right}
use native.Mathlib.Omega.{arith}
use borrow.Author.Tests.{lt-ltb, le-ltb, ltb-true, ltb-false}
use lib.Dec.{ltb}
use Rattle.numbers.specs.Below.{all_below, concat_below}
use Rattle.numbers.proofs.Tests.{by_cases, all_add, all_same}
use Rattle.numbers.proofs.Blocks.{blocks_add, blocks_same}
use Rattle.statements.specs.Lines.{by_line, line_start, line_stride}

-- places within a matrix of m rows of n
pub row_below : (m n i : ℕ) → i < m → i * n + n ≤ m * n
row_below m n i h = omega (arith, mul-le-mul_right n h)

module _ {ℓ} {A : Type ℓ} (n : ℕ) (row column : ℕ → A) where
  pub by_row : (t : ℕ) → t < n → by_line n t row column ≡ row t
  unfolding by_line
  by_row t h = rw (lt-ltb t n h)

  pub by_column : (t : ℕ) → n ≤ t → by_line n t row column ≡ column (t - n)
  unfolding by_line
  by_column t h = rw (le-ltb t n h)

  pub by_column_of : (j : ℕ) → by_line n (n + j) row column ≡ column j
  by_column_of j = let e : n + j - n ≡ j = omega arith in by_column (n + j) (omega arith) ∙ rw e

-- line t is a row or a column
pub row_or_column {ℓ} : {P : Type ℓ} (n t : ℕ) → (t < n → P) → (n ≤ t → P) → P
row_or_column n t row column = by_cases (ltb t n) (λ e. row (ltb-true t n e)) (λ e. column (ltb-false t n e))

-- the pairs of a row, and of a column
pub row_cell : (n t k : ℕ) → t < n → line_start n t + line_stride n t * k ≡ t * n + k
row_cell n t k h = rw (by_row n (λ i. i * n) (λ j. j) t h, by_row n (λ _. 1) (λ _. n) t h) (omega arith)

pub column_cell : (n t k : ℕ) → n ≤ t → line_start n t + line_stride n t * k ≡ k * n + (t - n)
column_cell n t k h = rw (by_column n (λ i. i * n) (λ j. j) t h, by_column n (λ _. 1) (λ _. n) t h) (omega arith)

-- they are within the matrix
pub line_within : (n t k : ℕ) → t < n + n → k < n → line_start n t + line_stride n t * k < n * n
line_within n t k h hk =
    row_or_column n t (λ l. rw (row_cell n t k l) (omega (arith, row_below n n t l))) (λ l. rw (column_cell n t k l) (omega (arith, row_below n n k hk)))

pub line_fits : (n t : ℕ) → t < n + n → (line_start n t < n * n) × (line_stride n t ≤ n * n)
line_fits n t h =
    let some : 1 * n ≤ n * n = mul-le-mul_right n (omega arith) in (
      omega (arith, line_within n t 0 h (omega arith)),
      row_or_column n t (λ l. rw (by_row n (λ _. 1) (λ _. n) t l) (omega arith)) (λ l. rw (by_column n (λ _. 1) (λ _. n) t l) (omega arith)),
    )

-- all lines are the rows and then the columns
pub all_lines : (n : ℕ) (f row column : ℕ → Bool) → ((i : ℕ) → i < n → f i ≡ row i) → ((j : ℕ) → j < n → f (n + j) ≡ column j) →
    all_below (n + n) f ≡ (all_below n row && all_below n column)
all_lines n f row column r c = all_add n n f ∙ ap₂ ◌&&◌ (all_same n _ _ r) (all_same n _ _ c)

pub blocks_lines : (n : ℕ) (f row column : ℕ → List ℕ) → ((i : ℕ) → i < n → f i ≡ row i) → ((j : ℕ) → j < n → f (n + j) ≡ column j) →
    concat_below (n + n) f ≡ concat_below n row ++ concat_below n column
blocks_lines n f row column r c = blocks_add n n f ∙ ap₂ ◌++◌ (blocks_same n _ _ r) (blocks_same n _ _ c)
