-- The tests of the BA and SH records at a place, as the code goes through them.
use Prim.Native.Nat.{ℕ, ◌+◌, ◌*◌, ◌-◌, ◌<◌}
use mathlib.Core.Path.{◌≡◌, sym, ap, ◌∙◌}
use mathlib.Core.Bool.{Bool, true, ◌&&◌, and_assoc}
use mathlib.Core.List.{List}
use native.Mathlib.Nat.{mul-one, add_assoc}
use native.Mathlib.Omega.{arith}
use lib.Dec.{ltb}
use Rattle.numbers.specs.Below.{all_below}
use Rattle.numbers.proofs.Tests.{all_grid, all_same, all_add}
use Rattle.sha256.specs.Message.{sha256}
use Rattle.group.specs.Elements.{parameters_of}
use Rattle.rules.specs.Bytes.{number2, number4}
use Rattle.rules.specs.Records.{SH, kind_at, counted_length, ballot_length, shift_length}
use Rattle.rules.specs.Tests.{first_fault}
use Rattle.rules.specs.Answers.{refusal_number}
use Rattle.rules.specs.declared.Refusal.{Refusal}
use Rattle.std.specs.Prelude.{Err}
use Rattle.frames.specs.Framed.{Framed, BallotFramed}
use borrow.Author.Tests.{le-leb}
use Rattle.rules.specs.Proofs.{proof_fields}
use Rattle.rules.specs.Claims.{matrix_at, entry_claim, row_claim, column_claim}
use Rattle.rules.specs.Count.{is_ranking}
use Rattle.rules.specs.Audit.{exponents_good, opens_as_shown, shown_ranking}
use Rattle.rules.specs.Ballot.{ballot_matrix, pairs_good, ballot_fields, ballot_proofs, ballot_fault, entry_proof, row_proof, column_proof, entry_place, row_place, column_place, ballot_context}
use Rattle.rules.specs.Shift.{shift_fields, shift_holds, shift_fault}
use Rattle.statements.specs.Walks.{pair_fields, branch_fields}
use Rattle.statements.proofs.Lines.{by_row, by_column_of, all_lines}
use Rattle.header.specs.declared.Head.{Head}
use Rattle.rules.specs.Header.{ranked}
use Rattle.header.specs.Heads.{head_of, HeaderKnown}
use Rattle.openings.specs.Shown.{opens_at}
use Rattle.openings.proofs.Matrices.{matrix_shown}
use Rattle.records.proofs.Tested.{Tested}
use Rattle.records.specs.Parts.{ballot_fields_at, shown_at, proof_at, entry_good, line_good, ballot_proofs_at, shift_fields_at, shift_proof_at}

-- proofs of one shape, one after another, are branches one after another
module _ (s : List ℕ) (at statements p q : ℕ) where
  abbrev branch : ℕ → Bool
  branch l = branch_fields s (at + l * (4 + 12 * statements)) statements p q

  joined : (count branches : ℕ) → all_below count (λ i. proof_fields s (at + branches * (4 + 12 * statements) * i) branches statements p q) ≡ proof_fields s at (count * branches) statements p q
  unfolding proof_fields
  joined count branches =
      all_same count _ (λ i. all_below branches (λ l. branch (i * branches + l)))
      (λ i _. all_same branches _ (λ l. branch (i * branches + l)) (λ l _. ap (λ (x : ℕ). branch_fields s x statements p q) (omega arith)))
      ∙ all_grid count branches branch

  behind : (a b next : ℕ) → next ≡ at + a * (4 + 12 * statements) →
      (proof_fields s at a statements p q && proof_fields s next b statements p q) ≡ proof_fields s at (a + b) statements p q
  unfolding proof_fields
  behind a b next e =
      ap (λ (t : Bool). all_below a branch && t) (all_same b _ (λ l. branch (a + l)) (λ l _. ap (λ (x : ℕ). branch_fields s x statements p q) (rw e (omega arith))))
      ∙ sym (all_add a b branch)

module _ (s : List ℕ) (h : Head) (at : ℕ) where
  -- the pairs, by rows
  pairs_are : (place rows : ℕ) → pairs_good (head_of s h) rows (matrix_at s h.n place)
      ≡ all_below (rows * h.n) (λ t. pair_fields s (place + 8 * t) h.setup.group.p h.setup.group.q)
  unfolding pairs_good matrix_at
  pairs_are place rows = all_grid rows h.n (λ t. pair_fields s (place + 8 * t) h.setup.group.p h.setup.group.q)

  -- the exponents shown, by rows
  exponents_are : exponents_good s (head_of s h) at ≡ all_below (h.n * h.n) (λ t. ltb (number4 s (at + counted_length h.n + 4 * t)) h.setup.group.q)
  unfolding exponents_good
  exponents_are = all_grid h.n h.n (λ t. ltb (number4 s (at + counted_length h.n + 4 * t)) h.setup.group.q)

  fields_are : ballot_fields s (head_of s h) at ≡ ballot_fields_at s h.n h.setup.group.p h.setup.group.q at (kind_at s at)
  unfolding ballot_fields
  fields_are =
      let n = h.n in
      let p = h.setup.group.p in
      let q = h.setup.group.q in
      let first : ℕ = at + 5 + 8 * (n * n) in
      let next : ℕ = at + 5 + 40 * (n * n) in
      let line : ℕ → Bool = λ t. proof_fields s (next + 16 * t) 1 1 p q in
      let lines : (all_below n line && all_below n (λ j. line (n + j))) ≡ proof_fields s next (n + n) 1 p q =
      sym (all_add n n line) ∙ joined s next 1 p q (n + n) 1 ∙ rw (mul-one (n + n)) in
      rw (
        pairs_are (at + 5) n,
        exponents_are,
        all_grid n n (λ t. proof_fields s (first + 32 * t) 2 1 p q),
        joined s first 1 p q (n * n) 2,
        and_assoc (all_below (n * n) (λ t. pair_fields s (at + 5 + 8 * t) p q) && proof_fields s first (n * n * 2) 1 p q) (all_below n line) _,
        lines,
        and_assoc (all_below (n * n) (λ t. pair_fields s (at + 5 + 8 * t) p q)) (proof_fields s first (n * n * 2) 1 p q) _,
        behind s first 1 p q (n * n * 2) (n + n) next (omega arith),
      )

  entries_are :
      all_below h.n (λ i. all_below h.n (λ j.
      proof_at s h (ballot_context (number2 s (at + 2)) (entry_place h.n i j)) (entry_proof h.n at i j) 2 1
      (λ l _. entry_claim (parameters_of h.setup.group) ((ballot_matrix s h.n at).b i j) ((ballot_matrix s h.n at).y i j) l)))
      ≡ all_below (h.n * h.n) (entry_good s h at)
  unfolding matrix_at
  entries_are = all_grid h.n h.n (entry_good s h at)

  lines_are :
      (all_below h.n (λ i. proof_at s h (ballot_context (number2 s (at + 2)) (row_place h.n i)) (row_proof h.n at i) 1 1 (λ _ _. row_claim (parameters_of h.setup.group) h.n (ballot_matrix s h.n at) i))
      && all_below h.n (λ j. proof_at s h (ballot_context (number2 s (at + 2)) (column_place h.n j)) (column_proof h.n at j) 1 1 (λ _ _. column_claim (parameters_of h.setup.group) h.n (ballot_matrix s h.n at) j)))
      ≡ all_below (h.n + h.n) (line_good s h at)
  lines_are =
      let row = row_claim (parameters_of h.setup.group) h.n (ballot_matrix s h.n at) in
      let column = column_claim (parameters_of h.setup.group) h.n (ballot_matrix s h.n at) in
      sym (all_lines h.n (line_good s h at) _ _ (λ i l. rw (by_row h.n row column i l)) (λ j l. rw (by_column_of h.n row column j, add_assoc (h.n * h.n) h.n j)))

  proofs_are : ballot_proofs sha256 s (head_of s h) at ≡ ballot_proofs_at s h at
  unfolding ballot_proofs
  proofs_are = rw (entries_are, and_assoc, lines_are)

  shown_is : 0 < h.n → opens_as_shown s (head_of s h) at ≡ (is_ranking h.n (shown_ranking s h.n at) && all_below (h.n * h.n) (opens_at s (parameters_of h.setup.group) h.n (at + 5) (at + counted_length h.n)))
  unfolding opens_as_shown
  shown_is some = ap (λ (t : Bool). is_ranking h.n (shown_ranking s h.n at) && t) (matrix_shown s (parameters_of h.setup.group) h.n (at + 5) (at + counted_length h.n) some)

  ballot_refused : 0 < h.n → (number : ℕ) (w : Refusal) → BallotFramed s at h.n number (Err w) → ballot_fault sha256 s (head_of s h) at number ≡ refusal_number w
  unfolding ballot_fault BallotFramed
  ballot_refused some number w f = rw (fields_are, proofs_are, shown_is some) (f _)

  pub ballot_table : HeaderKnown ranked s h → (number : ℕ) →
      Tested s (ballot_fault sha256 s (head_of s h) at number) (at + ballot_length h.n (kind_at s at)) (BallotFramed s at h.n number)
      (ballot_fields_at s h.n h.setup.group.p h.setup.group.q at (kind_at s at)) (ballot_proofs_at s h at) (shown_at s (parameters_of h.setup.group) h.n at (kind_at s at))
  unfolding ballot_fault BallotFramed Framed first_fault
  ballot_table known number =
      let some : 0 < h.n = omega (arith, known.low) in record {
        refused = ballot_refused some number;
        fits = λ f. f.0.0;
        rest = λ f. rw (fields_are, proofs_are, shown_is some, le-leb _ _ f.0.0, f.0.1, f.0.2, f.1);
      }

  shift_fields_are : (rows : ℕ) → shift_fields s (head_of s h) rows at ≡ shift_fields_at s h.n h.setup.group.p h.setup.group.q at rows
  unfolding shift_fields
  shift_fields_are rows = rw (pairs_are (at + 4) rows)

  shift_refused : (rows round a before number : ℕ) (w : Refusal) → Framed s at (shift_length h.n rows) SH (number2 s (at + 2)) number (Err w) →
      shift_fault sha256 s (head_of s h) rows at round a before number ≡ refusal_number w
  unfolding shift_fault shift_holds Framed
  shift_refused rows round a before number w f = rw (shift_fields_are rows) (f _)

  pub shift_table : (rows round a before number : ℕ) →
      Tested s (shift_fault sha256 s (head_of s h) rows at round a before number) (at + shift_length h.n rows)
      (Framed s at (shift_length h.n rows) SH (number2 s (at + 2)) number)
      (shift_fields_at s h.n h.setup.group.p h.setup.group.q at rows) (shift_proof_at s h before at rows round (a - 1)) true
  unfolding shift_fault shift_holds Framed first_fault
  shift_table rows round a before number =
      record {
        refused = shift_refused rows round a before number;
        fits = λ f. f.0;
        rest = λ f. rw (shift_fields_are rows, le-leb _ _ f.0, f.1, f.2);
      }
