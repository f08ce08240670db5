-- The claims of a matrix's entries and lines, by the places where their pairs stand.
use Prim.Native.Nat.{ℕ, ◌+◌, ◌*◌, ◌-◌, ◌≤◌, ◌<◌}
use mathlib.Core.Path.{◌≡◌, refl, sym, ap, ap₂, fun_ext, ◌∙◌}
use mathlib.Core.List.{List}
use native.Mathlib.Omega.{arith}
use lib.ListN.{length}
use Rattle.group.specs.Elements.{Parameters}
use Rattle.group.specs.declared.Element.{Element}
use Rattle.rules.specs.Bytes.{number4}
use Rattle.rules.specs.Proofs.{Statement}
use Rattle.rules.specs.Claims.{matrix_at, entry_claim, line_claim, row_claim, column_claim}
use Rattle.statements.specs.Lines.{by_line, line_start, line_stride}
use Rattle.statements.specs.Claims.{claim_of, Within}
use Rattle.statements.specs.declared.claims.Claim.{Claim}
use Rattle.statements.specs.declared.claims.Claim.TheVariants.{Entry, Line}
use Rattle.statements.proofs.Lines.{by_row, by_column, row_or_column, row_cell, column_cell, row_below, line_within}

-- of the matrix of n rows and n columns at a place
abbrev pub entry_at : (n at i j : ℕ) → Claim
entry_at n at i j = Entry (at + 8 * (i * n + j))

abbrev pub line_at : (n at t : ℕ) → Claim
line_at n at t = Line (at + 8 * line_start n t) (8 * line_stride n t) n

module _ (s : List ℕ) (g : Parameters) (n at : ℕ) where
  pub entry_claimed : (i j : ℕ) → claim_of s g (entry_at n at i j) ≡ (λ l _. entry_claim g ((matrix_at s n at).b i j) ((matrix_at s n at).y i j) l)
  unfolding claim_of matrix_at
  entry_claimed i j = refl

  -- the pairs of a run
  cells : (place stride : ℕ) (cell : ℕ → ℕ) → ((j : ℕ) → place + stride * j ≡ cell j) →
      line_claim g n (λ j. number4 s (place + stride * j)) (λ j. number4 s (place + 4 + stride * j)) ≡ line_claim g n (λ j. number4 s (cell j)) (λ j. number4 s (cell j + 4))
  cells place stride cell h =
      ap₂ (λ (b y : ℕ → ℕ). line_claim g n b y) (fun_ext (λ j. ap (λ (t : ℕ). number4 s t) (h j)))
      (fun_ext (λ j. let e : place + 4 + stride * j ≡ cell j + 4 = omega (arith, h j) in ap (λ (t : ℕ). number4 s t) e))

  pub line_claimed : (t : ℕ) → claim_of s g (line_at n at t) ≡ (λ _ _. by_line n t (row_claim g n (matrix_at s n at)) (column_claim g n (matrix_at s n at)))
  unfolding claim_of matrix_at
  line_claimed t =
      let said : Statement → ℕ → ℕ → Statement = λ st _ _. st in
      row_or_column n t
      (λ h. ap said (cells _ _ (λ j. at + 8 * (t * n + j)) (λ j. omega (arith, row_cell n t j h))
      ∙ sym (by_row n (row_claim g n (matrix_at s n at)) (column_claim g n (matrix_at s n at)) t h)))
      (λ h. ap said (cells _ _ (λ i. at + 8 * (i * n + (t - n))) (λ i. omega (arith, column_cell n t i h))
      ∙ sym (by_column n (row_claim g n (matrix_at s n at)) (column_claim g n (matrix_at s n at)) t h)))

  -- they stand on the board if the matrix does
  module _ (inverses : List Element) (fits : at + 8 * (n * n) ≤ length s) (l k : ℕ) where
    pub entry_stands : (i j : ℕ) → i < n → j < n → Within s inverses g (entry_at n at i j) l k
    unfolding Within
    entry_stands i j hi hj = omega (arith, row_below n n i hi)

    pub line_stands : (t : ℕ) → t < n + n → Within s inverses g (line_at n at t) l k
    unfolding Within
    line_stands t h = record { some = omega arith; fits = λ j hj. omega (arith, line_within n t j h hj) }
