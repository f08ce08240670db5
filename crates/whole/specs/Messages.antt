-- What hashing the whole claim buys (02, L3): the message of a challenge tells which proof of a board it is of, and all that this proof claims and
-- commits to. So proofs of different claims, records, rounds or places are never hashed from the same bytes.
use Rattle.std.specs.Prelude.{ℕ, suc, ◌+◌, ◌*◌, ◌-◌, ◌%◌, ◌^◌, ◌≤◌, ◌<◌, ◌≡◌, true, List, [], ◌∷◌, length}
use Rattle.numbers.specs.Below.{sum_below}
use Rattle.rules.specs.Bytes.{number2}
use Rattle.rules.specs.Proofs.{Statement, Commitments, Context, commitments_at, message, challenge}
use Rattle.rules.specs.Records.{header_length, has_mark, is_counted}
use Rattle.rules.specs.Claims.{entry_claim, row_claim, column_claim, shift_claim}
use Rattle.rules.specs.Header.{Header, header}
use Rattle.rules.specs.Ballot.{entry_proof, row_proof, column_proof, entry_place, row_place, column_place, ballot_context}
use Rattle.rules.specs.Shift.{shift_proof, shift_context}
use Rattle.rules.specs.Check.{accepted, refused, place, kind, matrix, check_board}
use Rattle.whole.specs.Rules.{e}
use Rattle.whole.specs.SecondDemand.{out_before}

-- the proof forms of these boards: in a ballot's BA those of its entries, rows and columns; in its SH of round m + 1, rounds from 0, that of the shift
pub data Form : Type 0 where
  entry : (i j : ℕ) → Form
  row : (i : ℕ) → Form
  column : (j : ℕ) → Form
  shift : (m : ℕ) → Form

-- with n processes: its branches, and the statements of each
unfoldable pub branches_of : (n : ℕ) → Form → ℕ
branches_of n (entry i j) = 2
branches_of n (row i) = 1
branches_of n (column j) = 1
branches_of n (shift m) = n - suc m + 1

unfoldable pub statements_of : (n : ℕ) → Form → ℕ
statements_of n (entry i j) = 1
statements_of n (row i) = 1
statements_of n (column j) = 1
statements_of n (shift m) = 2 + (n - suc m) * n

-- what its challenge names: mark, number, round and place
unfoldable pub context_of : (n number : ℕ) → Form → Context
context_of n number (entry i j) = ballot_context number (entry_place n i j)
context_of n number (row i) = ballot_context number (row_place n i)
context_of n number (column j) = ballot_context number (column_place n j)
context_of n number (shift m) = shift_context (suc m + 1) number

-- a proof as it is hashed
pub record Hashed : Type 0 where
  pub n : ℕ
  pub form : Form
  pub label : List ℕ
  pub number : ℕ
  pub claim : (l i : ℕ) → Statement
  pub commitments : (l i : ℕ) → Commitments

module _ (x : Hashed) where
  abbrev pub branches : ℕ
  branches = branches_of x.n x.form

  abbrev pub statements : ℕ
  statements = statements_of x.n x.form

  abbrev pub context : Context
  context = context_of x.n x.number x.form

  abbrev pub hashed_message : List ℕ
  hashed_message = message x.label context branches statements x.claim x.commitments

  -- its numbers fit the fields of the message
  pub record Fits : Type 0 where
    pub label_long : length x.label ≡ 32
    pub number_below : x.number < 2 ^ 16
    pub place_below : context.place < 2 ^ 16
    pub claims_below : (l i : ℕ) → l < branches → i < statements → ((x.claim l i).left < 2 ^ 32) × ((x.claim l i).right < 2 ^ 32)
    pub commitments_below : (l i : ℕ) → l < branches → i < statements → ((x.commitments l i).t1 < 2 ^ 32) × ((x.commitments l i).t2 < 2 ^ 32)

-- label, mark, number, round, place, number of statements and every A, B, t1, t2 are equal
pub record SameProof (x y : Hashed) : Type 0 where
  pub same_label : x.label ≡ y.label
  pub same_context : context x ≡ context y
  pub same_branches : branches x ≡ branches y
  pub same_statements : statements x ≡ statements y
  pub same_claims : (l i : ℕ) → l < branches x → i < statements x → x.claim l i ≡ y.claim l i
  pub same_commitments : (l i : ℕ) → l < branches x → i < statements x → x.commitments l i ≡ y.commitments l i

-- ---- on a board
-- with n processes and so many rounds a board has these proofs for a ballot of a kind: an audited ballot "has no SH" (02, L5)
unfoldable pub OnBoard : (n rounds kind : ℕ) → Form → Type 0
OnBoard n rounds kind (entry i j) = (i < n) × (j < n)
OnBoard n rounds kind (row i) = i < n
OnBoard n rounds kind (column j) = j < n
OnBoard n rounds kind (shift m) = (suc m < rounds) × (is_counted kind ≡ true)

module _ (s : List ℕ) (k : ℕ) where
  abbrev h : Header
  h = header s

  -- where ballot k's record stands that holds the proof, and the proof itself
  unfoldable pub record_of : Form → ℕ
  record_of (entry i j) = place s h 0 k
  record_of (row i) = place s h 0 k
  record_of (column j) = place s h 0 k
  record_of (shift m) = place s h (suc m) k

  unfoldable pub proof_of : Form → ℕ
  proof_of (entry i j) = entry_proof h.n (place s h 0 k) i j
  proof_of (row i) = row_proof h.n (place s h 0 k) i
  proof_of (column j) = column_proof h.n (place s h 0 k) j
  proof_of (shift m) = shift_proof h.n (h.n - suc m) (place s h (suc m) k)

  -- what it claims
  unfoldable pub claim_of : Form → (l i : ℕ) → Statement
  claim_of (entry i j) l _ = entry_claim h.group ((matrix s h 0 k).b i j) ((matrix s h 0 k).y i j) l
  claim_of (row i) _ _ = row_claim h.group h.n (matrix s h 0 k) i
  claim_of (column j) _ _ = column_claim h.group h.n (matrix s h 0 k) j
  claim_of (shift m) l i = shift_claim h.group h.n (matrix s h m k) (matrix s h (suc m) k) (out_before s (suc m) - 1) l i

  abbrev pub on_board : Form → Hashed
  on_board f =
      record {
        n = h.n;
        form = f;
        label = h.label;
        number = number2 s (record_of f + 2);
        claim = claim_of f;
        commitments = commitments_at s (proof_of f) (statements_of h.n f);
      }

pub record Messages (hash : List ℕ → List ℕ) : Type 0 where
  -- "A header of this model starts HF, and HD meets refusal 2."
  pub old_mark : (s : List ℕ) → header_length ≤ length s → has_mark s 0 (72 ∷ 68 ∷ []) ≡ true → check_board hash s ≡ refused 2 0
  -- equal messages are of the same proof
  pub told : (x y : Hashed) → Fits x → Fits y → hashed_message x ≡ hashed_message y → SameProof x y
  -- every proof of an accepted board fits, and its challenges add up to the one made of its message
  pub of_boards : (s : List ℕ) (rounds : ℕ) (order : List ℕ) (winner : ℕ) → check_board hash s ≡ accepted rounds order winner →
      (k : ℕ) (f : Form) → k < (header s).K → OnBoard (header s).n rounds (kind s (header s) k) f →
      let x = on_board s k f in
      Fits x × (sum_below (branches x) (e s (header s).group (proof_of s k f) (branches x) (statements x)) % (header s).group.q ≡ challenge hash (hashed_message x) (header s).group.q)
  -- so no two proofs of one accepted board have the same message
  pub apart : (s : List ℕ) (rounds : ℕ) (order : List ℕ) (winner : ℕ) → check_board hash s ≡ accepted rounds order winner →
      (k k' : ℕ) (f f' : Form) → k < (header s).K → k' < (header s).K → OnBoard (header s).n rounds (kind s (header s) k) f → OnBoard (header s).n rounds (kind s (header s) k') f' →
      hashed_message (on_board s k f) ≡ hashed_message (on_board s k' f') → (k ≡ k') × (f ≡ f')
