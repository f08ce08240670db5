-- A ballot's record from its parts.
use Prim.Native.Nat.{ℕ, zero, suc, ◌+◌, ◌*◌, ◌≤◌, ◌<◌}
use mathlib.Core.Path.{◌≡◌, refl, sym}
use mathlib.Core.List.{List, [], ◌∷◌, ◌++◌, append_assoc, append-nil}
use native.Mathlib.Nat.{add_assoc}
use native.Mathlib.Omega.{arith}
use borrow.Author.Tests.{eq-eqb, ne_eqb}
use lib.ListN.{length, get_or, take, length-append}
use lib.Seq.{take-suc}
use Rattle.numbers.specs.Below.{sum_below, concat_below}
use Rattle.numbers.proofs.Blocks.{length_blocks, blocks_grid}
use Rattle.rules.specs.Bytes.{bytes2, bytes4}
use Rattle.group.specs.Elements.{Parameters}
use Rattle.rules.specs.Records.{BA, counted_length}
use Rattle.rules.specs.Claims.{Matrix, row_claim, column_claim}
use Rattle.statements.proofs.Lines.{by_row, by_column_of, blocks_lines}
use Rattle.ballots.specs.Parts.{entry_in, line_of, body_bytes}
use Rattle.ballots.proofs.Pages.{grid}
use Rattle.jobs.specs.Records.{secret_at, matrix_of, pair_bytes, entry_prover, row_prover, column_prover, ballot_proof_bytes, ballot_bytes, audit_bytes}
use Rattle.jobs.specs.Prover.{proof_bytes}
use Rattle.jobs.proofs.Lengths.{length_pairs, length_proof, length_entries as length-entry-proofs, length_rows, length_columns}
use Rattle.sha256.specs.Message.{sha256}

module _ (label : List ℕ) (g : Parameters) (n number : ℕ) (list : ℕ → ℕ) (draws : List ℕ) (from : ℕ) where
  abbrev M : Matrix
  M = matrix_of g n list draws from

  abbrev row_sum : ℕ → ℕ
  row_sum i = sum_below n (λ j. secret_at n draws from i j)

  abbrev column_sum : ℕ → ℕ
  column_sum j = sum_below n (λ i. secret_at n draws from i j)

  pub length_entries : (count : ℕ) → length (concat_below count (entry_in label g n number list draws from)) ≡ 32 * count
  length_entries count = let e = length_blocks count 32 (entry_in label g n number list draws from) (λ i h. length_proof sha256 label g _) in omega arith

  lines_are : concat_below (n + n) (line_of label g n number list draws from) ≡ concat_below n (λ i. proof_bytes g (row_prover g n number list draws from i) sha256 label) ++ concat_below n (λ j. proof_bytes g (column_prover g n number list draws from j) sha256 label)
  unfolding line_of
  lines_are =
      blocks_lines n _ _ _
      (λ i l. rw (by_row n (row_claim g n M) (column_claim g n M) i l, by_row n row_sum column_sum i l))
      (λ j l.
      let e : from + 4 * (n * n) + (n + j) ≡ from + 4 * (n * n) + n + j = omega arith in
      rw (by_column_of n (row_claim g n M) (column_claim g n M) j, by_column_of n row_sum column_sum j, e, add_assoc (n * n) n j))

  pub proofs_joined : 0 < n →
      concat_below (n * n) (entry_in label g n number list draws from) ++ concat_below (n + n) (line_of label g n number list draws from) ≡ ballot_proof_bytes sha256 label g n number list draws from
  unfolding ballot_proof_bytes
  proofs_joined h = rw (grid n n (λ i j. proof_bytes g (entry_prover g n number list draws from i j) sha256 label) h, lines_are, append_assoc)

  pub body_joined : (kind : ℕ) (pairs : List ℕ) → pairs ≡ pair_bytes n M n →
      (BA ++ bytes2 number ++ (kind ∷ []) ++ pairs) ++ ballot_proof_bytes sha256 label g n number list draws from ≡ body_bytes label g n number kind list draws from
  body_joined kind pairs e = rw e

  pub proofs_start : (kind : ℕ) (pairs : List ℕ) → pairs ≡ pair_bytes n M n → length (BA ++ bytes2 number ++ (kind ∷ []) ++ pairs) ≡ 5 + 8 * (n * n)
  proofs_start kind pairs e = rw e (omega (arith, length_pairs n M n))

  -- what an audited ballot shows comes behind it, and nothing behind another
  module _ (kind : ℕ) where
    pub length_body : length (body_bytes label g n number kind list draws from) ≡ counted_length n
    unfolding ballot_proof_bytes
    length_body =
        let p = length_pairs n M n in
        let e = length-entry-proofs sha256 label g n number list draws from in
        let r = length_rows sha256 label g n number list draws from in
        let c = length_columns sha256 label g n number list draws from in
        simp length-append (omega arith)

    pub ballot_audited : kind ≡ 1 → body_bytes label g n number kind list draws from ++ audit_bytes n list draws from ≡ ballot_bytes sha256 label g n number kind list draws from
    unfolding ballot_bytes
    ballot_audited e = rw (eq-eqb kind 1 e)

    pub ballot_other : (kind ≡ 1 → ⊥) → body_bytes label g n number kind list draws from ≡ ballot_bytes sha256 label g n number kind list draws from
    unfolding ballot_bytes
    ballot_other h = rw (ne_eqb kind 1 h) (sym (append-nil (body_bytes label g n number kind list draws from)))

-- the exponents counted through
pub length_exponents : (count : ℕ) (draws : List ℕ) (from : ℕ) → length (concat_below count (λ c. bytes4 (get_or draws (from + c) 0))) ≡ 4 * count
length_exponents count draws from = omega (arith, length_blocks count 4 (λ c. bytes4 (get_or draws (from + c) 0)) (λ _ _. refl))

-- a list's first so many, one after another
singles : (n : ℕ) (l : List ℕ) → n ≤ length l → concat_below n (λ i. get_or l i 0 ∷ []) ≡ take n l
unfolding concat_below
singles zero l h = refl
singles (suc n) l h = rw (singles n l (omega arith)) (sym (take-suc l n 0 (omega arith)))

pub audit_joined : (n : ℕ) (list draws : List ℕ) (from : ℕ) → n ≤ length list →
    concat_below (n * n) (λ c. bytes4 (get_or draws (from + c) 0)) ++ take n list ≡ audit_bytes n (λ i. get_or list i 0) draws from
unfolding audit_bytes
audit_joined n list draws from h = rw (← blocks_grid n n (λ c. bytes4 (get_or draws (from + c) 0)), singles n list h)
