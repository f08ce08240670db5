-- "Proofs": branches of statements, each with its commitments and response, under challenges that add up. A statement is one of equal logarithms
-- (Chaum and Pedersen 1992); that one branch of many is true is shown as by Cramer, Damgård and Schoenmakers (1994).
-- Text in quotation marks is 01's, and 02's (L3) where it speaks of the message that a challenge is made of.
use Rattle.std.specs.Prelude.{ℕ, ◌+◌, ◌*◌, ◌%◌, List, [], ◌∷◌, ◌++◌, Bool, ◌&&◌, eqb, ltb}
use Rattle.numbers.specs.Below.{all_below, sum_below, concat_below}
use Rattle.group.specs.Arithmetic.{mul_mod, pow_mod}
use Rattle.group.specs.Elements.{is_element}
use Rattle.rules.specs.Bytes.{number4, number8, bytes2, bytes4}

-- "Every statement has one kind: for a pair (A, B), some w has A = g0^w and B = g1^w."
pub record Statement : Type 0 where
  pub left : ℕ
  pub right : ℕ

-- "g0^r = t1 × A^e and g1^r = t2 × B^e modulo p", at any two bases
unfoldable pub statement_holds : (p base0 base1 : ℕ) → Statement → (t1 t2 e r : ℕ) → Bool
statement_holds p base0 base1 st t1 t2 e r =
    eqb (pow_mod p base0 r) (mul_mod p t1 (pow_mod p st.left e)) && eqb (pow_mod p base1 r) (mul_mod p t2 (pow_mod p st.right e))

-- the commitments of a statement
pub record Commitments : Type 0 where
  pub t1 : ℕ
  pub t2 : ℕ

-- which proof of a board it is: "the record's mark, its number field, the round .., the proof's place in the record from 0"
pub record Context : Type 0 where
  pub mark : List ℕ
  pub number : ℕ
  pub round : ℕ
  pub place : ℕ

-- the number field and the place of 2 bytes, the round of 1
abbrev pub context_bytes : Context → List ℕ
context_bytes c = c.mark ++ bytes2 c.number ++ (c.round ∷ []) ++ bytes2 c.place

-- "per statement A, B, t1, t2"
abbrev pub statement_bytes : Statement → Commitments → List ℕ
statement_bytes st t = bytes4 st.left ++ bytes4 st.right ++ bytes4 t.t1 ++ bytes4 t.t2

-- "The message becomes: label, the record's mark, its number field, the round (1 byte, 1 for BA), the proof's place in the record from 0 (2 bytes),
-- then per statement A, B, t1, t2.": the statements branch by branch
unfoldable pub message : (label : List ℕ) → Context → (branches statements : ℕ) (claim : ℕ → ℕ → Statement) (t : ℕ → ℕ → Commitments) → List ℕ
message label c branches statements claim t =
    label ++ context_bytes c ++ concat_below branches (λ l. concat_below statements (λ i. statement_bytes (claim l i) (t l i)))

-- "c is the first 8 bytes of SHA-256" of the message, "modulo q"
abbrev pub challenge : (hash : List ℕ → List ℕ) (message : List ℕ) (q : ℕ) → ℕ
challenge hash message q = number8 (hash message) 0 % q

-- "A proof is, per branch, e 4, then per statement t1, t2, r, 4 each." Its branches have as many statements each.
abbrev pub branch_at : (at statements l : ℕ) → ℕ
branch_at at statements l = at + l * (4 + 12 * statements)

abbrev pub statement_at : (at statements l i : ℕ) → ℕ
statement_at at statements l i = branch_at at statements l + 4 + 12 * i

-- the commitments of branch l's statement i
abbrev pub commitments_at : (s : List ℕ) (at statements l i : ℕ) → Commitments
commitments_at s at statements l i = record { t1 = number4 s (statement_at at statements l i); t2 = number4 s (statement_at at statements l i + 4) }

-- the proof that stands at a place of a board
module _ (s : List ℕ) (at branches statements : ℕ) where
  -- t1 and t2 are elements, e and r below q
  unfoldable pub proof_fields : (p q : ℕ) → Bool
  proof_fields p q =
      all_below branches (λ l.
      ltb (number4 s (branch_at at statements l)) q
      && all_below statements (λ i.
      is_element p q (number4 s (statement_at at statements l i))
      && is_element p q (number4 s (statement_at at statements l i + 4))
      && ltb (number4 s (statement_at at statements l i + 8)) q))

  -- "It holds if for every statement" the equations hold "and the challenges add up, modulo q, to c.": at any two bases, under any label, in any context
  unfoldable pub proof_holds : (hash : List ℕ → List ℕ) (label : List ℕ) → Context → (p q base0 base1 : ℕ) (claim : ℕ → ℕ → Statement) → Bool
  proof_holds hash label c p q base0 base1 claim =
      all_below branches (λ l. all_below statements (λ i.
      statement_holds p base0 base1 (claim l i)
      (number4 s (statement_at at statements l i)) (number4 s (statement_at at statements l i + 4))
      (number4 s (branch_at at statements l)) (number4 s (statement_at at statements l i + 8))))
      && eqb (sum_below branches (λ l. number4 s (branch_at at statements l)) % q) (challenge hash (message label c branches statements claim (commitments_at s at statements)) q)
