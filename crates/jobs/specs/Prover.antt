-- A proof made by one who knows the witness of each statement of one branch, and draws for the others (Cramer, Damgård and Schoenmakers 1994).
use Rattle.std.specs.Prelude.{ℕ, ◌+◌, ◌*◌, ◌-◌, ◌%◌, cond, List, ◌++◌, ltb, eqb}
use Rattle.numbers.specs.Below.{sum_below, concat_below}
use Rattle.group.specs.Arithmetic.{mul_mod, pow_mod}
use Rattle.group.specs.Elements.{Parameters}
use Rattle.rules.specs.Bytes.{bytes4}
use Rattle.rules.specs.Proofs.{Statement, Commitments, Context, message, challenge}

pub record Prover : Type 0 where
  -- which proof of the board it is, its size, and what it claims
  pub context : Context
  pub branches : ℕ
  pub statements : ℕ
  pub claim : ℕ → ℕ → Statement
  -- the true branch, and the witness of each of its statements
  pub known : ℕ
  pub witness : ℕ → ℕ
  -- the draws, and where the proof's start
  pub draw : ℕ → ℕ
  pub from : ℕ

-- "per proof and branch, false branches a challenge and their responses, the true one its nonces": where those of branch l start
abbrev pub branch_draws : (from statements known l : ℕ) → ℕ
branch_draws from statements known l = from + l * (1 + statements) - cond (ltb known l) 1 0

module _ (pr : Prover) where
  abbrev pub draws_of : (l : ℕ) → ℕ
  draws_of l = branch_draws pr.from pr.statements pr.known l

  abbrev pub false_challenge : (l : ℕ) → ℕ
  false_challenge l = pr.draw (draws_of l)

  abbrev pub false_response : (l i : ℕ) → ℕ
  false_response l i = pr.draw (draws_of l + 1 + i)

  abbrev pub nonce : (i : ℕ) → ℕ
  nonce i = pr.draw (draws_of pr.known + i)

-- "A false branch's commitments follow from its equations.": at one base, for that side of the statement
abbrev pub false_commitment : Parameters → (base side challenge response : ℕ) → ℕ
false_commitment g base side e r = mul_mod g.p (pow_mod g.p base r) (pow_mod g.p side (g.q - e))

-- the commitments of a statement: "t1 = g0^nonce, t2 = g1^nonce" in the true branch, by its equations in a false one
unfoldable pub true_commitments : Parameters → (nonce : ℕ) → Commitments
true_commitments g x = record { t1 = pow_mod g.p g.g0 x; t2 = pow_mod g.p g.g1 x }

unfoldable pub false_commitments : Parameters → Statement → (challenge response : ℕ) → Commitments
false_commitments g st e r = record { t1 = false_commitment g g.g0 st.left e r; t2 = false_commitment g g.g1 st.right e r }

-- as they stand on a board
abbrev pub commitment_bytes : Commitments → List ℕ
commitment_bytes t = bytes4 t.t1 ++ bytes4 t.t2

-- a response of the true branch, under its challenge
abbrev pub true_response : (q nonce challenge witness : ℕ) → ℕ
true_response q x e w = (x + e * w) % q

-- a branch: a challenge, then for each statement its commitments and response
unfoldable pub branch_bytes : (challenge statements : ℕ) (commitments : ℕ → List ℕ) (response : ℕ → ℕ) → List ℕ
branch_bytes e S t r = bytes4 e ++ concat_below S (λ i. t i ++ bytes4 (r i))

module _ (g : Parameters) (pr : Prover) where
  abbrev pub committed : (l i : ℕ) → Commitments
  committed l i =
      cond (eqb l pr.known) (true_commitments g (nonce pr i)) (false_commitments g (pr.claim l i) (false_challenge pr l) (false_response pr l i))

  module _ (hash : List ℕ → List ℕ) (label : List ℕ) where
    unfoldable pub whole_challenge : ℕ
    whole_challenge = challenge hash (message label pr.context pr.branches pr.statements pr.claim committed) g.q

    -- the whole challenge less the false ones
    unfoldable pub true_challenge : ℕ
    true_challenge = (whole_challenge + sum_below pr.branches (λ l. cond (eqb l pr.known) 0 (g.q - false_challenge pr l))) % g.q

    abbrev pub challenge_of : (l : ℕ) → ℕ
    challenge_of l = cond (eqb l pr.known) true_challenge (false_challenge pr l)

    abbrev pub response_of : (l i : ℕ) → ℕ
    response_of l i = cond (eqb l pr.known) (true_response g.q (nonce pr i) true_challenge (pr.witness i)) (false_response pr l i)

    unfoldable pub proof_bytes : List ℕ
    proof_bytes = concat_below pr.branches (λ l. branch_bytes (challenge_of l) pr.statements (λ i. commitment_bytes (committed l i)) (response_of l))
