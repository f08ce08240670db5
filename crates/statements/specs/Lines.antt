-- The lines of a matrix of n rows and n columns: its rows, then its columns.
use Rattle.std.specs.Prelude.{ℕ, ◌*◌, ◌-◌, cond, ltb}

-- what is said of row t, or else of column t - n
unfoldable pub by_line {ℓ} : {A : Type ℓ} → (n t : ℕ) (row column : ℕ → A) → A
by_line n t row column = cond (ltb t n) (row t) (column (t - n))

-- the pair that line t starts with, and how far each is past the one before
abbrev pub line_start : (n t : ℕ) → ℕ
line_start n t = by_line n t (λ i. i * n) (λ j. j)

abbrev pub line_stride : (n t : ℕ) → ℕ
line_stride n t = by_line n t (λ _. 1) (λ _. n)
