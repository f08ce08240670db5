-- How a proof is made, in the terms of the rules.
use Rattle.std.specs.Prelude.{ℕ, ◌+◌, ◌*◌, ◌-◌, ◌^◌, ◌≤◌, ◌<◌, ◌≡◌, Bool, cond, List, ◌++◌, eqb, length, get_or}
use Rattle.std.proofs.Props.{props}
use Rattle.numbers.specs.Below.{sum_below, concat_below}
use Rattle.statements.specs.declared.claims.Claim.{Claim}
use Rattle.statements.specs.declared.claims.Claim.TheVariants.{Entry, Line, Shift}
use Rattle.rules.specs.Bytes.{bytes4}
use Rattle.group.specs.Elements.{Parameters}
use Rattle.group.specs.declared.Element.{Element}
use Rattle.group.specs.declared.Exponent.{Exponent}
use Rattle.rules.specs.Proofs.{Statement, Commitments, Context, statement_bytes}
use Rattle.jobs.specs.Prover.{Prover, commitment_bytes, true_commitments, false_commitments, true_response, proof_bytes, branch_draws, branch_bytes}
use Rattle.sha256.specs.Message.{sha256}
use Rattle.sha256.specs.Feed.{Fed}
use Rattle.sha256.specs.declared.Hasher.{Hasher}
use Rattle.output.specs.Written.{written}
use Rattle.statements.specs.Claims.{Within}
use Rattle.proving.specs.declared.Plan.{Plan}

-- what the message says of a statement, and of a branch
abbrev pub branch_said : (S : ℕ) (claim : ℕ → Statement) (t : ℕ → Commitments) → List ℕ
branch_said S claim t = concat_below S (λ i. statement_bytes (claim i) (t i))

-- a statement's commitments and response were written, and it was fed with its commitments
pub record Stated (st : Statement) (t : Commitments) (r : ℕ) (before after : List ℕ) (h k : Hasher) : Type 0 where
  pub wrote : after ≡ written (commitment_bytes t ++ bytes4 r) before
  pub fed : (m : List ℕ) → Fed h m → Fed k (m ++ statement_bytes st t)

-- the commitments of a statement: in the known branch from a nonce r, in another from a drawn challenge and response
unfoldable pub drafted : Parameters → Statement → (known : Bool) (e r : ℕ) → Commitments
drafted g st known e r = cond known (true_commitments g r) (false_commitments g st e r)

-- a branch was written, and its statements fed
pub record Branched (claim : ℕ → Statement) (e S : ℕ) (t : ℕ → Commitments) (r : ℕ → ℕ) (before after : List ℕ) (h k : Hasher) : Type 0 where
  pub wrote : after ≡ written (branch_bytes e S (λ i. commitment_bytes (t i)) r) before
  pub fed : (m : List ℕ) → Fed h m → Fed k (m ++ branch_said S claim t)

-- the i-th witness, as a number
abbrev pub witness_at : (witness : List Exponent) → ℕ → ℕ
witness_at witness i = (get_or witness i (record { 0 = 0 })).0

-- the responses of the known branch under a challenge
abbrev pub answers : (q e : ℕ) (witness : List Exponent) (draws : List ℕ) (at : ℕ) → ℕ → ℕ
answers q e witness draws at i = true_response q (get_or draws (at + i) 0) e (witness_at witness i)

-- where a branch's draws start
abbrev pub plan_draws : Plan → ℕ → ℕ
plan_draws plan l = branch_draws plan.from plan.statements plan.known l

-- the plan's draws are there, and those that it uses are below q
pub record PlanDraws (q : ℕ) (plan : Plan) (draws : List ℕ) : Type 0 where
  pub positive : 0 < q
  pub low : q < 2 ^ 32
  pub few : plan.branches ≤ 8
  pub known : plan.known < plan.branches
  pub small : plan.statements < 100
  pub near : plan.from < 2 ^ 40
  pub enough : plan.from + plan.branches * (1 + plan.statements) ≤ length draws + 1
  pub below : (d : ℕ) → d + 1 < plan.from + plan.branches * (1 + plan.statements) → get_or draws d 0 < q

-- and the pairs that the claim names stand on the page
pub record Planned (g : Parameters) (page : List ℕ) (inverses : List Element) (plan : Plan) (draws : List ℕ) : Type 0 where
  pub drawn : PlanDraws g.q plan draws
  pub ready : (l i : ℕ) → l < plan.branches → i < plan.statements → Within page inverses g plan.claim l i

-- both hold in one way at most
Within-prop : (page : List ℕ) (inverses : List Element) (g : Parameters) (claim : Claim) (l i : ℕ) → IsProp (Within page inverses g claim l i)
unfolding Within
Within-prop page inverses g (Entry at) l i = Prim.hlevel props
Within-prop page inverses g (Line at stride count) l i = Prim.hlevel props
Within-prop page inverses g (Shift m) l i = Prim.hlevel props

pub Planned-prop : (g : Parameters) (page : List ℕ) (inverses : List Element) (plan : Plan) (draws : List ℕ) → IsProp (Planned g page inverses plan draws)
Planned-prop g page inverses plan draws =
    let drawn : IsProp (PlanDraws g.q plan draws) = Prim.hlevel props in
    λ a b i. record { drawn = drawn a.drawn b.drawn i; ready = λ l k h m. Within-prop page inverses g plan.claim l k (a.ready l k h m) (b.ready l k h m) i }

-- a branch before the known one's challenge is known: 0 stands for it, and the nonces for the responses
unfoldable pub draft_challenge : Plan → (draws : List ℕ) (l : ℕ) → ℕ
draft_challenge plan draws l = cond (eqb l plan.known) 0 (get_or draws (plan_draws plan l) 0)

-- the draws that follow it are the nonces of the known branch, the responses of another
unfoldable pub draft_responses : Plan → (draws : List ℕ) (l i : ℕ) → ℕ
draft_responses plan draws l i = get_or draws (cond (eqb l plan.known) (plan_draws plan l) (plan_draws plan l + 1) + i) 0

unfoldable pub draft_commitments : Parameters → (ℕ → ℕ → Statement) → Plan → (draws : List ℕ) (l i : ℕ) → Commitments
draft_commitments g claim plan draws l i = drafted g (claim l i) (eqb l plan.known) (draft_challenge plan draws l) (draft_responses plan draws l i)

unfoldable pub draft_branch : Parameters → (ℕ → ℕ → Statement) → Plan → (draws : List ℕ) (l : ℕ) → List ℕ
draft_branch g claim plan draws l = branch_bytes (draft_challenge plan draws l) plan.statements (λ i. commitment_bytes (draft_commitments g claim plan draws l i)) (draft_responses plan draws l)

-- every branch was so written, and its statements fed
pub record Committed (g : Parameters) (claim : ℕ → ℕ → Statement) (plan : Plan) (draws before after : List ℕ) (h k : Hasher) : Type 0 where
  pub wrote : after ≡ written (concat_below plan.branches (draft_branch g claim plan draws)) before
  pub fed : (m : List ℕ) → Fed h m → Fed k (m ++ concat_below plan.branches (λ l. branch_said plan.statements (claim l) (draft_commitments g claim plan draws l)))

unfoldable pub false_complements : (q : ℕ) → Plan → (draws : List ℕ) → ℕ → ℕ
false_complements q plan draws n = sum_below n (λ l. cond (eqb l plan.known) 0 (q - get_or draws (plan_draws plan l) 0))

-- what the rules say of one who makes a proof and has the witnesses of the known branch
abbrev pub prover_of : Context → (ℕ → ℕ → Statement) → Plan → (witness : List Exponent) (draws : List ℕ) → Prover
prover_of c claim plan witness draws =
    record {
      context = c;
      branches = plan.branches;
      statements = plan.statements;
      claim = claim;
      known = plan.known;
      witness = witness_at witness;
      draw = λ d. get_or draws d 0;
      from = plan.from;
    }

abbrev pub proof_of : (label : List ℕ) → Context → Parameters → (ℕ → ℕ → Statement) → Plan → (witness : List Exponent) (draws : List ℕ) → List ℕ
proof_of label c g claim plan witness draws = proof_bytes g (prover_of c claim plan witness draws) sha256 label

-- so many draws from a place on are there, and below q
pub record DrawsBelow (q : ℕ) (draws : List ℕ) (from count : ℕ) : Type 0 where
  pub positive : 0 < q
  pub low : q < 2 ^ 32
  pub near : from + count < 2 ^ 40
  pub enough : from + count ≤ length draws
  pub below : (d : ℕ) → d < from + count → get_or draws d 0 < q
