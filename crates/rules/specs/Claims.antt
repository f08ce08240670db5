-- What each proof of a ballot or a shift claims of the matrices.
use Rattle.std.specs.Prelude.{ℕ, zero, suc, ◌+◌, ◌*◌, ◌/◌, ◌%◌, cond, List, eqb, ltb}
use Rattle.numbers.specs.Below.{prod_below}
use Rattle.group.specs.Arithmetic.{over}
use Rattle.group.specs.Elements.{Parameters}
use Rattle.rules.specs.Bytes.{number4}
use Rattle.rules.specs.Proofs.{Statement}

-- pairs by row and column
pub record Matrix : Type 0 where
  pub b : ℕ → ℕ → ℕ
  pub y : ℕ → ℕ → ℕ

-- "pairs (b 4, Y 4) by rows": those from a place on
unfoldable pub matrix_at : (s : List ℕ) (n at : ℕ) → Matrix
matrix_at s n at = record { b = λ i j. number4 s (at + 8 * (i * n + j)); y = λ i j. number4 s (at + 8 * (i * n + j) + 4) }

-- "Entry: two branches, (b, Y) and (b/g1, Y).": of a pair
unfoldable pub entry_claim : Parameters → (b y l : ℕ) → Statement
entry_claim g b y zero = record { left = b; right = y }
entry_claim g b y (suc l) = record { left = over g.p g.q b g.g1; right = y }

-- "Row, column: one branch; the products of the row's or column's b and Y, the former over g1.": of a run of pairs
unfoldable pub line_claim : Parameters → (count : ℕ) (b y : ℕ → ℕ) → Statement
line_claim g count b y = record { left = over g.p g.q (prod_below count b) g.g1; right = prod_below count y % g.p }

abbrev pub row_claim : Parameters → (n : ℕ) → Matrix → (i : ℕ) → Statement
row_claim g n M i = line_claim g n (λ j. M.b i j) (λ j. M.y i j)

abbrev pub column_claim : Parameters → (n : ℕ) → Matrix → (j : ℕ) → Statement
column_claim g n M j = line_claim g n (λ i. M.b i j) (λ i. M.y i j)

-- "row i if i < l, else row i+1"
abbrev pub source : (l i : ℕ) → ℕ
source l i = cond (ltb i l) i (i + 1)

-- f but for 1 at a
abbrev pub besides : (a : ℕ) → (ℕ → ℕ) → ℕ → ℕ
besides a f j = cond (eqb j a) 1 (f j)

-- "Branch l has first (b/g1, Y) of the previous matrix at row l, column a; then the products of row l's other columns;
-- then for each new row i and column j the new pair over the previous pair at row i if i < l, else row i+1."
unfoldable pub shift_claim : Parameters → (n : ℕ) (before new : Matrix) (a l i : ℕ) → Statement
shift_claim g n B N a l zero = record { left = over g.p g.q (B.b l a) g.g1; right = B.y l a }
shift_claim g n B N a l (suc zero) =
    record { left = prod_below n (besides a (B.b l)) % g.p; right = prod_below n (besides a (B.y l)) % g.p }
shift_claim g n B N a l (suc (suc k)) =
    record {
      left = over g.p g.q (N.b (k / n) (k % n)) (B.b (source l (k / n)) (k % n));
      right = over g.p g.q (N.y (k / n) (k % n)) (B.y (source l (k / n)) (k % n));
    }
