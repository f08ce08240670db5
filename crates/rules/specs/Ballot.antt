-- The BA record at a place: its fields, and its tests in the table's order, with those of 02, L5.
use Rattle.std.specs.Prelude.{ℕ, ◌+◌, ◌*◌, Bool, true, cond, ◌&&◌, ◌||◌, List, [], ◌∷◌, ◌++◌}
use Rattle.numbers.specs.Below.{all_below}
use Rattle.group.specs.Elements.{is_element}
use Rattle.rules.specs.Bytes.{number2}
use Rattle.rules.specs.Records.{BA, kind_at, is_counted, is_audited, ballot_length}
use Rattle.rules.specs.Proofs.{Statement, Context, proof_fields, proof_holds}
use Rattle.rules.specs.Claims.{Matrix, matrix_at, entry_claim, row_claim, column_claim}
use Rattle.rules.specs.Tests.{Test, first_fault, ◌or_else◌, frame}
use Rattle.rules.specs.Header.{Header}
use Rattle.rules.specs.Audit.{exponents_good, opens_as_shown}

-- 7, "no group element (b, Y, ..)": the pairs of a matrix of so many rows
unfoldable pub pairs_good : Header → (rows : ℕ) → Matrix → Bool
pairs_good h rows M =
    all_below rows (λ i. all_below h.n (λ j. is_element h.group.p h.group.q (M.b i j) && is_element h.group.p h.group.q (M.y i j)))

-- a proof at a place, under the bases g0 and g1 and the board's label
abbrev pub holds_at : (hash : List ℕ → List ℕ) (s : List ℕ) → Header → Context → (at branches statements : ℕ) (claim : ℕ → ℕ → Statement) → Bool
holds_at hash s h c at branches statements claim =
    proof_holds s at branches statements hash h.label c h.group.p h.group.q h.group.g0 h.group.g1 claim

-- "BA | number 2; n² pairs (b 4, Y 4) by rows; n² entry, n row, n column proofs", with the kind byte ahead of the pairs: where these stand
abbrev pub ballot_matrix : (s : List ℕ) (n at : ℕ) → Matrix
ballot_matrix s n at = matrix_at s n (at + 5)

module _ (n at : ℕ) where
  abbrev pub entry_proof : (i j : ℕ) → ℕ
  entry_proof i j = at + 5 + 8 * (n * n) + 32 * (i * n + j)

  abbrev pub row_proof : (i : ℕ) → ℕ
  row_proof i = at + 5 + 40 * (n * n) + 16 * i

  abbrev pub column_proof : (j : ℕ) → ℕ
  column_proof j = at + 5 + 40 * (n * n) + 16 * (n + j)

-- 02, L3, "the proof's place in the record from 0": in the order in which they stand
module _ (n : ℕ) where
  abbrev pub entry_place : (i j : ℕ) → ℕ
  entry_place i j = i * n + j

  abbrev pub row_place : (i : ℕ) → ℕ
  row_place i = n * n + i

  abbrev pub column_place : (j : ℕ) → ℕ
  column_place j = n * n + n + j

-- 02, L3: "the round (1 byte, 1 for BA)"
abbrev pub ballot_context : (number place : ℕ) → Context
ballot_context number place = record { mark = BA; number = number; round = 1; place = place }

-- 17: "another kind (after 6 ..)"
abbrev pub kind_test : (s : List ℕ) (at : ℕ) → Test
kind_test s at = (is_counted (kind_at s at) || is_audited (kind_at s at)) or_else 17

module _ (s : List ℕ) (h : Header) (at : ℕ) where
  -- 1, 2 and 6: "The length test reads up to the kind byte first"; with fewer than 5 bytes left the kind reads as 0, and the length is more than 5.
  abbrev pub ballot_frame : (number : ℕ) → List Test
  ballot_frame number =
      frame s at (ballot_length h.n (kind_at s at)) BA (number2 s (at + 2)) number ++ (kind_test s at ∷ [])

  -- 7: "fields left to right: no group element (b, Y, t1, t2), or s, e, r ≥ q"; of an audited record also "x ≥ q"
  unfoldable pub ballot_fields : Bool
  ballot_fields =
      pairs_good h h.n (ballot_matrix s h.n at)
      && all_below h.n (λ i. all_below h.n (λ j. proof_fields s (entry_proof h.n at i j) 2 1 h.group.p h.group.q))
      && all_below h.n (λ i. proof_fields s (row_proof h.n at i) 1 1 h.group.p h.group.q)
      && all_below h.n (λ j. proof_fields s (column_proof h.n at j) 1 1 h.group.p h.group.q)
      && cond (is_audited (kind_at s at)) (exponents_good s h at) true

module _ (hash : List ℕ → List ℕ) (s : List ℕ) (h : Header) (at : ℕ) where
  -- of the record's proof at a place from 0
  abbrev context : (place : ℕ) → Context
  context place = ballot_context (number2 s (at + 2)) place

  -- 8: "a proof fails"
  unfoldable pub ballot_proofs : Bool
  ballot_proofs =
      all_below h.n (λ i. all_below h.n (λ j.
      holds_at hash s h (context (entry_place h.n i j)) (entry_proof h.n at i j) 2 1 (λ l _. entry_claim h.group ((ballot_matrix s h.n at).b i j) ((ballot_matrix s h.n at).y i j) l)))
      && all_below h.n (λ i. holds_at hash s h (context (row_place h.n i)) (row_proof h.n at i) 1 1 (λ _ _. row_claim h.group h.n (ballot_matrix s h.n at) i))
      && all_below h.n (λ j. holds_at hash s h (context (column_place h.n j)) (column_proof h.n at j) 1 1 (λ _ _. column_claim h.group h.n (ballot_matrix s h.n at) j))

  -- the record due: the number of its ballot, from 1. 18 "(after 8 ..)", of an audited record
  abbrev pub ballot_tests : (number : ℕ) → List Test
  ballot_tests number =
      ballot_frame s h at number
      ++ ((ballot_fields s h at or_else 7) ∷ (ballot_proofs or_else 8) ∷ (cond (is_audited (kind_at s at)) (opens_as_shown s h at) true or_else 18) ∷ [])

  unfoldable pub ballot_fault : (number : ℕ) → ℕ
  ballot_fault number = first_fault (ballot_tests number)
