-- A matrix written is the matrix read, and claims about the one are claims about the other.
use Prim.Native.Nat.{ℕ, zero, suc, ◌+◌, ◌*◌, ◌/◌, ◌%◌, ◌<◌}
use native.Mathlib.Nat.{mod-lt, div-lt_iff_lt-mul}
use native.Mathlib.Omega.{arith}
use mathlib.Core.Path.{◌≡◌, refl, ap}
use mathlib.Core.Bool.{true, cond}
use mathlib.Core.List.{List, ◌++◌}
use lib.Dec.{ltb, eqb}
use Rattle.numbers.specs.Below.{prod_below}
use Rattle.numbers.proofs.Tests.{by_cases, and_true, all_true}
use Rattle.numbers.proofs.Products.{prod_same}
use Rattle.rules.specs.Bytes.{bytes4, Stands}
use Rattle.group.specs.Elements.{Parameters, is_element}
use Rattle.rules.specs.Claims.{Matrix, matrix_at, entry_claim, line_claim, row_claim, column_claim, shift_claim, source, besides}
use Rattle.rules.specs.Header.{Header}
use Rattle.rules.specs.Ballot.{pairs_good}
use Rattle.rules.proofs.Places.{stands_left, stands_right, stands_moved, stands_block, word_stands}
use Rattle.jobs.specs.Records.{pair_bytes}
use Rattle.jobs.proofs.Lengths.{length_pairs_row}

-- a new row comes from one of one row more
pub source_below : (l i rows : ℕ) → i < rows → source l i < rows + 1
source_below l i rows h = by_cases (ltb i l) (λ e. rw e (omega arith)) (λ e. rw e (omega arith))

-- two matrices with the same pairs
pub record SameMatrix (rows n : ℕ) (M M' : Matrix) : Type 0 where
  pub same_b : (i j : ℕ) → i < rows → j < n → M.b i j ≡ M'.b i j
  pub same_y : (i j : ℕ) → i < rows → j < n → M.y i j ≡ M'.y i j

pub pairs_stand : (s : List ℕ) (at n rows : ℕ) (M : Matrix) → ((i j : ℕ) → M.b i j < 4294967296) → ((i j : ℕ) → M.y i j < 4294967296) →
    Stands s at (pair_bytes n M rows) → SameMatrix rows n (matrix_at s n at) M
unfolding matrix_at
pairs_stand s at n rows M small_b small-y h =
    let cell : (i j : ℕ) → i < rows → j < n → Stands s (at + 8 * (i * n + j)) (bytes4 (M.b i j) ++ bytes4 (M.y i j)) = λ i j a b.
    stands_moved (omega arith)
    (stands_block n 8 (λ j. bytes4 (M.b i j) ++ bytes4 (M.y i j)) (λ _ _. refl) (stands_block rows (n * 8) _ (λ i _. length_pairs_row n M i) h i a) j b) in
    record {
      same_b = λ i j a b. word_stands (small_b i j) (stands_left (bytes4 (M.b i j)) _ (cell i j a b));
      same_y = λ i j a b. word_stands (small-y i j) (stands_right (bytes4 (M.b i j)) _ refl (cell i j a b));
    }

pub pairs_good_lem : (h : Header) (rows : ℕ) (M M' : Matrix) → SameMatrix rows h.n M M' →
    ((i j : ℕ) → is_element h.group.p h.group.q (M'.b i j) ≡ true) → ((i j : ℕ) → is_element h.group.p h.group.q (M'.y i j) ≡ true) →
    pairs_good h rows M ≡ true
unfolding pairs_good
pairs_good_lem h rows M M' e eb ey =
    all_true rows _ (λ i a. all_true h.n _ (λ j b. rw (e.same_b i j a b, e.same_y i j a b) (and_true (eb i j) (ey i j))))

module _ (g : Parameters) (n : ℕ) where
  pub entry_same : (M M' : Matrix) (rows i j l : ℕ) → SameMatrix rows n M M' → i < rows → j < n →
      entry_claim g (M.b i j) (M.y i j) l ≡ entry_claim g (M'.b i j) (M'.y i j) l
  entry_same M M' rows i j l e a b = rw (e.same_b i j a b, e.same_y i j a b)

  pub row_same : (M M' : Matrix) (rows i : ℕ) → SameMatrix rows n M M' → i < rows → row_claim g n M i ≡ row_claim g n M' i
  unfolding line_claim
  row_same M M' rows i e a = rw (prod_same n (λ j. M.b i j) (λ j. M'.b i j) (λ j b. e.same_b i j a b), prod_same n (λ j. M.y i j) (λ j. M'.y i j) (λ j b. e.same_y i j a b))

  pub column_same : (M M' : Matrix) (j : ℕ) → SameMatrix n n M M' → j < n → column_claim g n M j ≡ column_claim g n M' j
  unfolding line_claim
  column_same M M' j e b =
      rw (prod_same n (λ i. M.b i j) (λ i. M'.b i j) (λ i a. e.same_b i j a b), prod_same n (λ i. M.y i j) (λ i. M'.y i j) (λ i a. e.same_y i j a b))

  besides_same : (a : ℕ) (f f' : ℕ → ℕ) → ((j : ℕ) → j < n → f j ≡ f' j) → prod_below n (besides a f) ≡ prod_below n (besides a f')
  besides_same a f f' h = prod_same n (besides a f) (besides a f') (λ j b. ap (λ t. cond (eqb j a) 1 t) (h j b))

  pub shift_same : (B B' N N' : Matrix) (rows a l i : ℕ) → SameMatrix (rows + 1) n B B' → SameMatrix rows n N N' → a < n → l < rows + 1 → i < 2 + rows * n →
      shift_claim g n B N a l i ≡ shift_claim g n B' N' a l i
  unfolding shift_claim
  shift_same B B' N N' rows a l zero eb en la ll li = rw (eb.same_b l a ll la, eb.same_y l a ll la)
  shift_same B B' N N' rows a l (suc zero) eb en la ll li =
      rw (besides_same a (B.b l) (B'.b l) (λ j b. eb.same_b l j ll b), besides_same a (B.y l) (B'.y l) (λ j b. eb.same_y l j ll b))
  shift_same B B' N N' rows a l (suc (suc i)) eb en la ll li =
      let some : 0 < n = omega arith in
      let r : i / n < rows = (div-lt_iff_lt-mul some).1 (omega arith) in
      let c : i % n < n = mod-lt i some in
      let o = source_below l (i / n) rows r in
      rw (en.same_b (i / n) (i % n) r c, en.same_y (i / n) (i % n) r c, eb.same_b (source l (i / n)) (i % n) o c, eb.same_y (source l (i / n)) (i % n) o c)
