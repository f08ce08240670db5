-- What the rules ask of each record of a board, line by line of 01's table: beside each stands the number of the refusal where it is broken.
use Rattle.std.specs.Prelude.{ℕ, ◌+◌, ◌*◌, ◌-◌, ◌%◌, ◌≤◌, ◌<◌, ◌≡◌, ◌⊎◌, Bool, true, cond, List, length, get_or}
use Rattle.numbers.specs.Below.{sum_below, prod_below}
use Rattle.group.specs.Arithmetic.{mul_mod, pow_mod}
use Rattle.group.specs.Elements.{is_element, Parameters}
use Rattle.rules.specs.Bytes.{number2, number4}
use Rattle.rules.specs.Group.{paired, orders, generators}
use Rattle.rules.specs.Records.{BA, SH, RT, has_mark, header_length, kind_at, is_audited, ballot_length, shift_length, sheet_length}
use Rattle.rules.specs.Proofs.{Statement, Context, branch_at, statement_at, commitments_at, message, challenge}
use Rattle.rules.specs.Claims.{Matrix, matrix_at, entry_claim, row_claim, column_claim, shift_claim}
use Rattle.rules.specs.Count.{is_ranking}
use Rattle.rules.specs.Header.{sizes, limits, Header, header, counter_field}
use Rattle.rules.specs.Audit.{value_of, shown_exponent, shown_ranking}
use Rattle.rules.specs.Ballot.{ballot_matrix, entry_proof, row_proof, column_proof, entry_place, row_place, column_place, ballot_context}
use Rattle.rules.specs.Shift.{shift_proof, shift_context}
use Rattle.rules.specs.Sheet.{out_at, count_at, exponent_at}
use Rattle.rules.specs.declared.Model.{Model}

-- ---- pairs and proofs, wherever they stand
-- 7, "no group element (b, Y, ..)": the pairs of a matrix of so many rows
pub record PairRules (g : Parameters) (rows n : ℕ) (M : Matrix) : Type 0 where
  pub b_element : (i j : ℕ) → i < rows → j < n → is_element g.p g.q (M.b i j) ≡ true
  pub y_element : (i j : ℕ) → i < rows → j < n → is_element g.p g.q (M.y i j) ≡ true

-- "A proof is, per branch, e 4, then per statement t1, t2, r, 4 each."
module _ (s : List ℕ) (g : Parameters) (at branches statements : ℕ) where
  -- branch l's challenge; of its statement i the commitments and the response
  abbrev pub e : (l : ℕ) → ℕ
  e l = number4 s (branch_at at statements l)

  abbrev pub t1 : (l i : ℕ) → ℕ
  t1 l i = number4 s (statement_at at statements l i)

  abbrev pub t2 : (l i : ℕ) → ℕ
  t2 l i = number4 s (statement_at at statements l i + 4)

  abbrev pub r : (l i : ℕ) → ℕ
  r l i = number4 s (statement_at at statements l i + 8)

  -- 7: "no group element (.. t1, t2), or .. e, r ≥ q"
  pub record ProofFields : Type 0 where
    pub e_below : (l : ℕ) → l < branches → e l < g.q
    pub t1_element : (l i : ℕ) → l < branches → i < statements → is_element g.p g.q (t1 l i) ≡ true
    pub t2_element : (l i : ℕ) → l < branches → i < statements → is_element g.p g.q (t2 l i) ≡ true
    pub r_below : (l i : ℕ) → l < branches → i < statements → r l i < g.q

  -- 8: a proof "holds if for every statement g0^r = t1 × A^e and g1^r = t2 × B^e modulo p, and the challenges add up, modulo q, to c":
  -- at any two bases, c being made of the message under a label, in a context
  pub record ProofEquations (hash : List ℕ → List ℕ) (label : List ℕ) (context : Context) (base0 base1 : ℕ) (claim : (l i : ℕ) → Statement) : Type 0 where
    pub first : (l i : ℕ) → l < branches → i < statements → pow_mod g.p base0 (r l i) ≡ mul_mod g.p (t1 l i) (pow_mod g.p (claim l i).left (e l))
    pub second : (l i : ℕ) → l < branches → i < statements → pow_mod g.p base1 (r l i) ≡ mul_mod g.p (t2 l i) (pow_mod g.p (claim l i).right (e l))
    pub adds_up : sum_below branches e % g.q ≡ challenge hash (message label context branches statements claim (commitments_at s at statements)) g.q

-- ---- the records, each at its place
pub record HeaderRules (hash : List ℕ → List ℕ) (model : Model) (s : List ℕ) : Type 0 where
  -- 1: "bytes left are fewer than its length (for a first record, 54)"
  pub fits : header_length ≤ length s
  -- 2: "mark differs from the one due"
  pub marked : has_mark s 0 model.mark ≡ true
  -- 3: "n or K out of range"
  pub sized : sizes model (header s).n (header s).K ≡ true
  -- 23 (02, L12): "past 5 or 200 but within 3" where the model is `small`; with `ranked` it says nothing beyond 3
  pub limited : limits model (header s).n (header s).K ≡ true
  -- 4: "a rule on p and q broken"
  pub ordered : orders (header s).n (header s).K (header s).group.p (header s).group.q ≡ true
  -- 5: "a rule on g0 or g1 broken"
  pub generated : generators hash (header s).label (counter_field s) (header s).group ≡ true

-- what the audited BA record at a place shows (02, L5): "An audited record ends with n² exponents x (4 bytes each) and the ranking (n bytes), and every
-- pair must open so."
pub record ShownRules (s : List ℕ) (h : Header) (at : ℕ) : Type 0 where
  -- 7: "x ≥ q stays 7"
  pub small : (i j : ℕ) → i < h.n → j < h.n → shown_exponent s h.n at i j < h.group.q
  -- 18: "last n bytes that are no ranking or a pair that does not open so"
  pub ranking : is_ranking h.n (shown_ranking s h.n at) ≡ true
  pub opens_b : (i j : ℕ) → i < h.n → j < h.n →
      (ballot_matrix s h.n at).b i j ≡ paired h.group (shown_exponent s h.n at i j) (value_of (shown_ranking s h.n at) i j)
  pub opens_y : (i j : ℕ) → i < h.n → j < h.n → (ballot_matrix s h.n at).y i j ≡ pow_mod h.group.p h.group.g1 (shown_exponent s h.n at i j)

module _ (hash : List ℕ → List ℕ) (s : List ℕ) (h : Header) where
  -- a proof at a place, with the bases g0 and g1 and the board's label
  abbrev pub ProofHolds : (context : Context) (at branches statements : ℕ) (claim : (l i : ℕ) → Statement) → Type 0
  ProofHolds context at branches statements claim =
      ProofEquations s h.group at branches statements hash h.label context h.group.g0 h.group.g1 claim

  -- of the proof with a place from 0 in the BA record that starts at a place: "its number field" is the record's own
  abbrev in_ballot : (at place : ℕ) → Context
  in_ballot at place = ballot_context (number2 s (at + 2)) place

  -- BA, that of the ballot with a number
  pub record BallotRules (at number : ℕ) : Type 0 where
    -- 1: "The length test reads up to the kind byte first" (02, L5)
    pub fits : at + ballot_length h.n (kind_at s at) ≤ length s
    -- 2
    pub marked : has_mark s at BA ≡ true
    -- 6: "number or round not the one due"
    pub numbered : number2 s (at + 2) ≡ number
    -- 17, "another kind (after 6 ..)": "0 counted, 1 audited"
    pub kinded : (kind_at s at ≡ 0) ⊎ (kind_at s at ≡ 1)
    -- 7: "n² pairs (b 4, Y 4) by rows; n² entry, n row, n column proofs"
    pub pairs : PairRules h.group h.n h.n (ballot_matrix s h.n at)
    pub entry_fields : (i j : ℕ) → i < h.n → j < h.n → ProofFields s h.group (entry_proof h.n at i j) 2 1
    pub row_fields : (i : ℕ) → i < h.n → ProofFields s h.group (row_proof h.n at i) 1 1
    pub column_fields : (j : ℕ) → j < h.n → ProofFields s h.group (column_proof h.n at j) 1 1
    -- 8: "a proof fails"
    pub entries : (i j : ℕ) → i < h.n → j < h.n →
        ProofHolds (in_ballot at (entry_place h.n i j)) (entry_proof h.n at i j) 2 1 (λ l _. entry_claim h.group ((ballot_matrix s h.n at).b i j) ((ballot_matrix s h.n at).y i j) l)
    pub rows : (i : ℕ) → i < h.n →
        ProofHolds (in_ballot at (row_place h.n i)) (row_proof h.n at i) 1 1 (λ _ _. row_claim h.group h.n (ballot_matrix s h.n at) i)
    pub columns : (j : ℕ) → j < h.n →
        ProofHolds (in_ballot at (column_place h.n j)) (column_proof h.n at j) 1 1 (λ _ _. column_claim h.group h.n (ballot_matrix s h.n at) j)
    -- 7 and 18 of an audited record
    pub shown : is_audited (kind_at s at) ≡ true → ShownRules s h at

  -- SH of R rows, in a round from 1; the pairs of the same ballot's record a round earlier start at before, and a went out in that round
  pub record ShiftRules (R at round a before number : ℕ) : Type 0 where
    -- 1, 2 and 6
    pub fits : at + shift_length h.n R ≤ length s
    pub marked : has_mark s at SH ≡ true
    pub numbered : number2 s (at + 2) ≡ number
    -- 7: "R × n pairs; one shift proof", of "R+1 branches"
    pub pairs : PairRules h.group R h.n (matrix_at s h.n (at + 4))
    pub proof_fields_lem : ProofFields s h.group (shift_proof h.n R at) (R + 1) (2 + R * h.n)
    -- 8
    pub proof : ProofHolds (shift_context round (number2 s (at + 2))) (shift_proof h.n R at) (R + 1) (2 + R * h.n)
        (λ l i. shift_claim h.group h.n (matrix_at s h.n before) (matrix_at s h.n (at + 4)) (a - 1) l i)

-- RT, that of a round, from 1, whose ballots have these matrices, and of which those that a test picks are counted; out: what its out field is to hold
pub record SheetRules (s : List ℕ) (h : Header) (at round : ℕ) (picks : ℕ → Bool) (ballots : ℕ → Matrix) (out : ℕ) : Type 0 where
  -- 1, 2 and 6
  pub fits : at + sheet_length h.n ≤ length s
  pub marked : has_mark s at RT ≡ true
  pub numbered : get_or s (at + 2) 0 ≡ round
  -- 7: "s, e, r ≥ q", of each column's s
  pub small : (i : ℕ) → i < h.n → exponent_at s at i < h.group.q
  -- 9, "in that same walk: count > K"; 02, L5: "the count limit of 9" is "over counted ballots"
  pub few : (i : ℕ) → i < h.n → count_at s at i ≤ sum_below h.K (λ k. cond (picks k) 1 0)
  -- 10: "For column i of round m, over all K ballots' first rows: product of b = g0^s × g1^count, product of Y = g1^s."; 02, L5: an audited ballot
  -- "enters no product"
  pub tally_b : (i : ℕ) → i < h.n →
      prod_below h.K (λ k. cond (picks k) ((ballots k).b 0 i) 1) % h.group.p ≡ paired h.group (exponent_at s at i) (count_at s at i)
  pub tally_y : (i : ℕ) → i < h.n →
      prod_below h.K (λ k. cond (picks k) ((ballots k).y 0 i) 1) % h.group.p ≡ pow_mod h.group.p h.group.g1 (exponent_at s at i)
  -- 11: "out is not the one due"
  pub out_due : out_at s at ≡ out
