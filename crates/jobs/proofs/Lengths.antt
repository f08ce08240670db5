-- How long the parts of a board are.
use Prim.Native.Nat.{ℕ, zero, suc, ◌+◌, ◌*◌, ◌-◌, ◌<◌}
use mathlib.Core.Path.{◌≡◌, refl}
use mathlib.Core.Bool.{cond}
use mathlib.Core.List.{List, [], ◌∷◌, ◌++◌}
use native.Mathlib.Omega.{arith}
use lib.ListN.{length, length-append}
use Rattle.numbers.specs.Below.{concat_below}
use Rattle.numbers.proofs.Blocks.{length_blocks}
use Rattle.numbers.proofs.Tests.{by_cases}
use Rattle.group.specs.Elements.{Parameters}
use Rattle.rules.specs.Bytes.{bytes4}
use Rattle.rules.specs.Claims.{Matrix}
use Rattle.rules.specs.Records.{is_counted, is_audited, audit_length, record_length, ballot_length, shift_length, sheet_length}
use Rattle.jobs.specs.Job.{Job, kind_of}
use Rattle.jobs.specs.Prover.{Prover, commitment_bytes, committed, response_of, branch_bytes, proof_bytes}
use Rattle.jobs.specs.Records.{secret_at, audit_bytes, matrix_of, pair_bytes, entry_prover, row_prover, column_prover, shift_prover, ballot_proof_bytes, ballot_bytes, shift_bytes, sheet_column, sheet_bytes}
use Rattle.jobs.specs.Board.{record_bytes}

pub length_branch : (e S : ℕ) (t : ℕ → List ℕ) (r : ℕ → ℕ) → ((i : ℕ) → i < S → length (t i) ≡ 8) → length (branch_bytes e S t r) ≡ 4 + 12 * S
unfolding branch_bytes
length_branch e S t r wide =
    let n : length (concat_below S (λ i. t i ++ bytes4 (r i))) ≡ S * 12 = length_blocks S 12 _ (λ i h. simp length-append (omega (arith, wide i h))) in
    simp length-append (omega arith)

pub length_pairs_row : (n : ℕ) (M : Matrix) (i : ℕ) → length (concat_below n (λ j. bytes4 (M.b i j) ++ bytes4 (M.y i j))) ≡ n * 8
length_pairs_row n M i = length_blocks n 8 _ (λ _ _. refl)

pub length_pairs : (n : ℕ) (M : Matrix) (rows : ℕ) → length (pair_bytes n M rows) ≡ 8 * (rows * n)
length_pairs n M rows =
    let e : length (pair_bytes n M rows) ≡ rows * (n * 8) = length_blocks rows (n * 8) _ (λ i _. length_pairs_row n M i) in
    omega arith

pub length_sheet : (q n K : ℕ) (kind : ℕ → ℕ) (draws : List ℕ) (from : ℕ → ℕ) (m out : ℕ) (counts : List ℕ) →
    length (sheet_bytes q n K kind draws from m out counts) ≡ sheet_length n
unfolding sheet_bytes
length_sheet q n K kind draws from m out counts = omega (arith, length_blocks n 6 (sheet_column q n K kind draws from counts) (λ _ _. refl))

-- what an audited ballot shows
pub length_audit : (n : ℕ) (list : ℕ → ℕ) (draws : List ℕ) (from : ℕ) → length (audit_bytes n list draws from) ≡ audit_length n
unfolding audit_bytes
length_audit n list draws from =
    let e : length (concat_below n (λ i. concat_below n (λ j. bytes4 (secret_at n draws from i j)))) ≡ n * (n * 4) = length_blocks n (n * 4) _ (λ i _. length_blocks n 4 _ (λ _ _. refl)) in
    let r : length (concat_below n (λ i. list i ∷ [])) ≡ n * 1 = length_blocks n 1 _ (λ _ _. refl) in
    simp length-append (omega arith)

pub length_shown : (n kind : ℕ) (list : ℕ → ℕ) (draws : List ℕ) (from : ℕ) → length (cond (is_audited kind) (audit_bytes n list draws from) []) ≡ cond (is_audited kind) (audit_length n) 0
length_shown n kind list draws from = by_cases (is_audited kind) (λ e. rw e (length_audit n list draws from)) (λ e. rw e)

module _ (hash : List ℕ → List ℕ) (label : List ℕ) (g : Parameters) where
  pub length_proof : (pr : Prover) → length (proof_bytes g pr hash label) ≡ pr.branches * (4 + 12 * pr.statements)
  unfolding proof_bytes
  length_proof pr = length_blocks pr.branches (4 + 12 * pr.statements) _ (λ l h. length_branch _ pr.statements (λ i. commitment_bytes (committed g pr l i)) (response_of g pr hash label l) (λ _ _. refl))

  -- proofs of one size behind one another
  pub length_proofs : (n b s : ℕ) (f : ℕ → Prover) → ((i : ℕ) → (f i).branches ≡ b) → ((i : ℕ) → (f i).statements ≡ s) →
      length (concat_below n (λ i. proof_bytes g (f i) hash label)) ≡ n * (b * (4 + 12 * s))
  length_proofs n b s f eb es = length_blocks n (b * (4 + 12 * s)) _ (λ i h. rw (← eb i, ← es i) (length_proof (f i)))

  module _ (n number : ℕ) (list : ℕ → ℕ) (draws : List ℕ) (from : ℕ) where
    pub length_entries : length (concat_below n (λ i. concat_below n (λ j. proof_bytes g (entry_prover g n number list draws from i j) hash label))) ≡ n * (n * 32)
    length_entries = length_blocks n (n * 32) _ (λ i _. length_proofs n 2 1 (entry_prover g n number list draws from i) (λ _. refl) (λ _. refl))

    pub length_rows : length (concat_below n (λ i. proof_bytes g (row_prover g n number list draws from i) hash label)) ≡ n * 16
    length_rows = length_proofs n 1 1 (row_prover g n number list draws from) (λ _. refl) (λ _. refl)

    pub length_columns : length (concat_below n (λ j. proof_bytes g (column_prover g n number list draws from j) hash label)) ≡ n * 16
    length_columns = length_proofs n 1 1 (column_prover g n number list draws from) (λ _. refl) (λ _. refl)

    pub length_ballot : (kind : ℕ) → length (ballot_bytes hash label g n number kind list draws from) ≡ ballot_length n kind
    unfolding ballot_bytes ballot_proof_bytes
    length_ballot kind =
        let a = length_shown n kind list draws from in
        let p = length_pairs n (matrix_of g n list draws from) n in
        let e = length_entries in
        let r = length_rows in
        let c = length_columns in
        simp length-append (omega arith)

  pub length_shift : (n rows round number : ℕ) (before after : ℕ → ℕ) (struck a : ℕ) (draws : List ℕ) (old new : ℕ) →
      length (shift_bytes hash label g n rows round number before after struck a draws old new) ≡ shift_length n rows
  unfolding shift_bytes
  length_shift n rows round number before after struck a draws old new =
      let p = length_pairs n (matrix_of g n after draws new) rows in
      let c = length_proof (shift_prover g n rows round number before after struck a draws old new) in
      simp length-append (omega arith)

pub length_record : (hash : List ℕ → List ℕ) (job : Job) (g : Parameters) (before : List ℕ) (a m k : ℕ) → length (record_bytes hash job g before a m k) ≡ record_length job.n (kind_of job k) m
unfolding record_bytes record_length
length_record hash job g before a zero k = length_ballot hash job.label g job.n (k + 1) _ job.draws _ (kind_of job k)
length_record hash job g before a (suc m) k =
    by_cases (is_counted (kind_of job k))
    (λ e. rw e (length_shift hash job.label g job.n (job.n - suc m) (suc m + 1) (k + 1) _ _ _ _ job.draws _ _))
    (λ e. rw e)
