-- The records of a board, each over what it needs: the group, n, the process of each row (list), the draws and where the record's start.
use Rattle.std.specs.Prelude.{ℕ, zero, suc, ◌+◌, ◌*◌, ◌-◌, ◌/◌, ◌%◌, cond, List, [], ◌∷◌, ◌++◌, eqb, get_or}
use Rattle.numbers.specs.Below.{sum_below, concat_below}
use Rattle.group.specs.Arithmetic.{pow_mod}
use Rattle.group.specs.Elements.{Parameters}
use Rattle.rules.specs.Bytes.{bytes2, bytes4}
use Rattle.rules.specs.Group.{paired}
use Rattle.rules.specs.Records.{BA, SH, RT, is_counted, is_audited}
use Rattle.rules.specs.Proofs.{Statement, Context}
use Rattle.rules.specs.Claims.{Matrix, entry_claim, row_claim, column_claim, shift_claim, source}
use Rattle.rules.specs.Ballot.{entry_place, row_place, column_place, ballot_context}
use Rattle.rules.specs.Shift.{shift_context}
use Rattle.jobs.specs.Prover.{Prover, proof_bytes}

-- ---- pairs
-- "per record one x a pair": that at row i, column j
abbrev pub secret_at : (n : ℕ) (draws : List ℕ) (from i j : ℕ) → ℕ
secret_at n draws from i j = get_or draws (from + (i * n + j)) 0

-- "Row i of a ballot matrix has v = 1 in the column of the process ranked i-th, else 0.", of those still in
abbrev pub opened : (list : ℕ → ℕ) (i j : ℕ) → ℕ
opened list i j = cond (eqb (list i) (j + 1)) 1 0

-- "A pair (b, Y) opens to x and v, .. if b = g0^x × g1^v and Y = g1^x."
unfoldable pub matrix_of : Parameters → (n : ℕ) (list : ℕ → ℕ) (draws : List ℕ) (from : ℕ) → Matrix
matrix_of g n list draws from =
    record { b = λ i j. paired g (secret_at n draws from i j) (opened list i j); y = λ i j. pow_mod g.p g.g1 (secret_at n draws from i j) }

-- pairs by rows of n columns
abbrev pub pair_bytes : (n : ℕ) → Matrix → (rows : ℕ) → List ℕ
pair_bytes n M rows = concat_below rows (λ i. concat_below n (λ j. bytes4 (M.b i j) ++ bytes4 (M.y i j)))

-- what an audited ballot shows: the exponents by rows, and the ranking
unfoldable pub audit_bytes : (n : ℕ) (list : ℕ → ℕ) (draws : List ℕ) (from : ℕ) → List ℕ
audit_bytes n list draws from = concat_below n (λ i. concat_below n (λ j. bytes4 (secret_at n draws from i j))) ++ concat_below n (λ i. list i ∷ [])

-- ---- proofs: which branch is true, why, and where their draws start
-- of a row or column: the exponents of its pairs add up to the witness x
abbrev pub line_prover : Context → (draws : List ℕ) → Statement → (x from : ℕ) → Prover
line_prover c draws claim x from =
    record { context = c; branches = 1; statements = 1; claim = λ _ _. claim; known = 0; witness = λ _. x; draw = λ d. get_or draws d 0; from = from }

-- of the ballot with a number
module _ (g : Parameters) (n number : ℕ) (list : ℕ → ℕ) (draws : List ℕ) (from : ℕ) where
  abbrev pub entry_prover : (i j : ℕ) → Prover
  entry_prover i j =
      record {
        context = ballot_context number (entry_place n i j);
        branches = 2;
        statements = 1;
        claim = λ l _. entry_claim g ((matrix_of g n list draws from).b i j) ((matrix_of g n list draws from).y i j) l;
        known = opened list i j;
        witness = λ _. secret_at n draws from i j;
        draw = λ d. get_or draws d 0;
        from = from + n * n + 3 * (i * n + j);
      }

  abbrev pub row_prover : (i : ℕ) → Prover
  row_prover i =
      line_prover (ballot_context number (row_place n i)) draws (row_claim g n (matrix_of g n list draws from) i)
      (sum_below n (λ j. secret_at n draws from i j)) (from + 4 * (n * n) + i)

  abbrev pub column_prover : (j : ℕ) → Prover
  column_prover j =
      line_prover (ballot_context number (column_place n j)) draws (column_claim g n (matrix_of g n list draws from) j)
      (sum_below n (λ i. secret_at n draws from i j)) (from + 4 * (n * n) + n + j)

-- the exponents of the statements of a shift, column a gone out and row l struck, where the draws of the two records start at old and new
unfoldable pub shift_witness : (q n : ℕ) (draws : List ℕ) (old new a l i : ℕ) → ℕ
shift_witness q n draws old new a l zero = secret_at n draws old l a
shift_witness q n draws old new a l (suc zero) = sum_below n (λ j. cond (eqb j a) 0 (secret_at n draws old l j))
shift_witness q n draws old new a l (suc (suc i)) = secret_at n draws new (i / n) (i % n) + (q - secret_at n draws old (source l (i / n)) (i % n))

-- of the ballot with a number in a round, from 1: so many new rows, the processes of the rows being those before and after
abbrev pub shift_prover : Parameters → (n rows round number : ℕ) (before after : ℕ → ℕ) (struck a : ℕ) (draws : List ℕ) (old new : ℕ) → Prover
shift_prover g n rows round number before after struck a draws old new =
    record {
      context = shift_context round number;
      branches = rows + 1;
      statements = 2 + rows * n;
      claim = λ l i. shift_claim g n (matrix_of g n before draws old) (matrix_of g n after draws new) a l i;
      known = struck;
      witness = shift_witness g.q n draws old new a struck;
      draw = λ d. get_or draws d 0;
      from = new + rows * n;
    }

-- ---- records
module _ (hash : List ℕ → List ℕ) (label : List ℕ) (g : Parameters) (n : ℕ) where
  -- "BA | number 2; n² pairs (b 4, Y 4) by rows; n² entry, n row, n column proofs"
  unfoldable pub ballot_proof_bytes : (number : ℕ) (list : ℕ → ℕ) (draws : List ℕ) (from : ℕ) → List ℕ
  ballot_proof_bytes number list draws from =
      concat_below n (λ i. concat_below n (λ j. proof_bytes g (entry_prover g n number list draws from i j) hash label))
      ++ concat_below n (λ i. proof_bytes g (row_prover g n number list draws from i) hash label)
      ++ concat_below n (λ j. proof_bytes g (column_prover g n number list draws from j) hash label)

  -- 02, L5: "BA gains a kind byte after its number"; "An audited record ends with n² exponents x (4 bytes each) and the ranking (n bytes)"
  unfoldable pub ballot_bytes : (number kind : ℕ) (list : ℕ → ℕ) (draws : List ℕ) (from : ℕ) → List ℕ
  ballot_bytes number kind list draws from =
      BA ++ bytes2 number ++ (kind ∷ []) ++ pair_bytes n (matrix_of g n list draws from) n ++ ballot_proof_bytes number list draws from
      ++ cond (is_audited kind) (audit_bytes n list draws from) []

  -- "SH | number 2; R × n pairs; one shift proof"
  unfoldable pub shift_bytes : (rows round number : ℕ) (before after : ℕ → ℕ) (struck a : ℕ) (draws : List ℕ) (old new : ℕ) → List ℕ
  shift_bytes rows round number before after struck a draws old new =
      SH ++ bytes2 number ++ pair_bytes n (matrix_of g n after draws new) rows
      ++ proof_bytes g (shift_prover g n rows round number before after struck a draws old new) hash label

-- "RT | round 1, out 1, then per process count 2, s 4": of round m of K ballots of these kinds, the draws of whose records start at from;
-- 02, L5: an audited ballot "enters no product"
module _ (q n K : ℕ) (kind : ℕ → ℕ) (draws : List ℕ) (from : ℕ → ℕ) where
  abbrev pub column_sum : (i : ℕ) → ℕ
  column_sum i = sum_below K (λ k. cond (is_counted (kind k)) (secret_at n draws (from k) 0 i) 0)

  abbrev pub sheet_column : (counts : List ℕ) (i : ℕ) → List ℕ
  sheet_column counts i = bytes2 (get_or counts i 0) ++ bytes4 (column_sum i % q)

  unfoldable pub sheet_bytes : (m out : ℕ) (counts : List ℕ) → List ℕ
  sheet_bytes m out counts = RT ++ ((m + 1) ∷ out ∷ []) ++ concat_below n (sheet_column counts)
