-- What the code writes of a ballot, counted through as it goes, and what it needs of pages and draws.
use Rattle.std.specs.Prelude.{ℕ, ◌+◌, ◌*◌, ◌-◌, ◌/◌, ◌%◌, ◌≤◌, ◌<◌, ◌≡◌, cond, List, [], ◌∷◌, ◌++◌, eqb, length, get_or}
use Rattle.numbers.specs.Below.{sum_below}
use Rattle.sha256.specs.Message.{sha256}
use Rattle.group.specs.Elements.{Parameters}
use Rattle.group.specs.declared.Exponent.{Exponent}
use Rattle.rules.specs.Bytes.{bytes2, Stands}
use Rattle.rules.specs.Records.{BA}
use Rattle.rules.specs.Proofs.{Statement}
use Rattle.rules.specs.Claims.{Matrix, row_claim, column_claim}
use Rattle.rules.specs.Ballot.{ballot_context}
use Rattle.statements.specs.Lines.{by_line}
use Rattle.jobs.specs.Prover.{proof_bytes}
use Rattle.jobs.specs.Records.{secret_at, matrix_of, pair_bytes, line_prover, entry_prover, shift_witness, shift_prover, ballot_proof_bytes, shift_bytes}
use Rattle.proving.specs.Plans.{DrawsBelow, witness_at}
use Rattle.ballots.specs.declared.shift.Shift.{Shift}

-- a matrix stands on a page at a place
abbrev pub Paged : (page : List ℕ) (at rows n : ℕ) → Matrix → Type 0
Paged page at rows n M = Stands page at (pair_bytes n M rows)

-- the draws at a place and so many on, at a stride, but for one
unfoldable pub sum_but : (draws : List ℕ) (at stride count but : ℕ) → ℕ
sum_but draws at stride count but = sum_below count (λ i. cond (eqb i but) 0 (get_or draws (at + stride * i) 0))

-- the secrets of row t, or of column t - n, joined
abbrev pub line_sum : (draws : List ℕ) (from n t : ℕ) → ℕ
line_sum draws from n t = by_line n t (λ i. sum_below n (λ j. secret_at n draws from i j)) (λ j. sum_below n (λ i. secret_at n draws from i j))

module _ (label : List ℕ) (g : Parameters) (n number : ℕ) (list : ℕ → ℕ) (draws : List ℕ) (from : ℕ) where
  -- the c-th entry proof
  abbrev pub entry_in : (c : ℕ) → List ℕ
  entry_in c = proof_bytes g (entry_prover g n number list draws from (c / n) (c % n)) sha256 label

  -- what row t says, or column t - n
  abbrev pub line_said : (t : ℕ) → Statement
  line_said t = by_line n t (row_claim g n (matrix_of g n list draws from)) (column_claim g n (matrix_of g n list draws from))

  -- its proof, behind those of the entries
  unfoldable pub line_of : (t : ℕ) → List ℕ
  line_of t = proof_bytes g (line_prover (ballot_context number (n * n + t)) draws (line_said t) (line_sum draws from n t) (from + 4 * (n * n) + t)) sha256 label

-- the record up to its proofs
abbrev pub body_bytes : (label : List ℕ) → Parameters → (n number kind : ℕ) (list : ℕ → ℕ) (draws : List ℕ) (from : ℕ) → List ℕ
body_bytes label g n number kind list draws from =
    BA ++ bytes2 number ++ (kind ∷ []) ++ pair_bytes n (matrix_of g n list draws from) n ++ ballot_proof_bytes sha256 label g n number list draws from

-- the first so many witnesses, modulo q
pub record Witnessed (q n : ℕ) (draws : List ℕ) (old new a l count : ℕ) (s : List Exponent) : Type 0 where
  pub long : length s ≡ 64
  pub each : (i : ℕ) → i < count → witness_at s i % q ≡ shift_witness q n draws old new a l i % q

-- what a shift needs of its draws
pub record Shifting (p q : ℕ) (s : Shift) (draws : List ℕ) : Type 0 where
  pub modulus : 0 < p
  pub some : 0 < s.n
  pub few : s.n ≤ 8
  pub left : 0 < s.rows
  pub fewer : s.rows < 8
  pub inside : s.column < s.n
  pub within : s.struck ≤ s.rows
  pub olds : DrawsBelow q draws s.old ((s.rows + 1) * s.n)
  pub news : DrawsBelow q draws s.new (s.rows * s.n + (s.rows + 1) * (3 + s.rows * s.n) - 1)

-- the matrices of a shift, its proof and its record
abbrev pub old_matrix : Parameters → Shift → (draws : List ℕ) → Matrix
old_matrix g s draws = matrix_of g s.n (λ k. get_or s.before k 0) draws s.old

abbrev pub new_matrix : Parameters → Shift → (draws : List ℕ) → Matrix
new_matrix g s draws = matrix_of g s.n (λ k. get_or s.after k 0) draws s.new

module _ (label : List ℕ) (g : Parameters) (s : Shift) (draws : List ℕ) where
  abbrev pub shift_proof_of : List ℕ
  shift_proof_of =
      proof_bytes g
      (shift_prover g s.n s.rows s.round s.number (λ k. get_or s.before k 0) (λ k. get_or s.after k 0) s.struck s.column draws s.old s.new)
      sha256 label

  abbrev pub shift_of : List ℕ
  shift_of =
      shift_bytes sha256 label g s.n s.rows s.round s.number (λ k. get_or s.before k 0) (λ k. get_or s.after k 0) s.struck s.column draws s.old
      s.new
