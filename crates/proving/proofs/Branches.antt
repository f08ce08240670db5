-- A branch grows by a statement.
use Prim.Native.Nat.{ℕ, ◌+◌, ◌*◌, ◌-◌, ◌≤◌, ◌<◌}
use mathlib.Core.Path.{◌≡◌, refl, sym, subst, ◌∙◌}
use mathlib.Core.Bool.{cond}
use mathlib.Core.List.{List, ◌++◌, append_assoc}
use native.Mathlib.Omega.{arith}
use lib.Dec.{eqb}
use lib.ListN.{length, get_or, length-append, length-take, length-drop}
use borrow.Rule.Slice.PartMut.{mid_of, put_mid}
use Rattle.numbers.specs.Below.{concat_below}
use Rattle.group.specs.Elements.{Parameters}
use Rattle.sha256.specs.declared.Hasher.{Hasher}
use Rattle.rules.specs.Bytes.{bytes4, part}
use Rattle.output.specs.Written.{written}
use Rattle.output.proofs.Laws.{more, skip, blocks_more}
use Rattle.rules.specs.Proofs.{Statement, Commitments}
use Rattle.jobs.specs.Prover.{commitment_bytes, branch_bytes}
use Rattle.proving.specs.Plans.{Stated, Branched, plan_draws, drafted, draft_challenge, draft_commitments, draft_responses}
use Rattle.proving.specs.declared.Plan.{Plan}
use Rattle.jobs.proofs.Lengths.{length_branch}

pub branch_none : (e : ℕ) (t : ℕ → List ℕ) (r : ℕ → ℕ) (o : List ℕ) → written (bytes4 e) o ≡ written (branch_bytes e 0 t r) o
unfolding branch_bytes concat_below
branch_none e t r o = refl

module _ (e : ℕ) (t : ℕ → Commitments) (r : ℕ → ℕ) where
  abbrev ts : ℕ → List ℕ
  ts i = commitment_bytes (t i)

  pub branch_more : (i a : ℕ) (o l x : List ℕ) {st : Statement} {h k : Hasher} → a ≡ 4 + 12 * i → l ≡ written (branch_bytes e i ts r) o →
      Stated st (t i) (r i) (mid_of a (length l - a) l) x h k → put_mid a (length l - a) l x ≡ written (branch_bytes e (i + 1) ts r) o
  unfolding branch_bytes
  branch_more i a o l x ea el s =
      more (branch_bytes e i ts r) (ts i ++ bytes4 (r i)) o l x a (length_branch e i ts r (λ _ _. refl) ∙ sym ea) el s.wrote
      ∙ rw (blocks_more (λ i. ts i ++ bytes4 (r i)) i, append_assoc)

-- a branch whose commitments stand there already, and whose challenge and responses are written
module _ (e : ℕ) (r : ℕ → ℕ) (o : List ℕ) where
  pub answer_more : (i a : ℕ) (l x : List ℕ) → a ≡ 12 + 12 * i → a + 4 ≤ length o → l ≡ written (branch_bytes e i (λ i. part o (4 + 12 * i) 8) r) o →
      x ≡ written (bytes4 (r i)) (mid_of a (length l - a) l) → put_mid a (length l - a) l x ≡ written (branch_bytes e (i + 1) (λ i. part o (4 + 12 * i) 8) r) o
  unfolding branch_bytes
  answer_more i a l x ea fits el ex =
      let t : ℕ → List ℕ = λ i. part o (4 + 12 * i) 8 in
      let wide : (j : ℕ) → j < i + 1 → length (t j) ≡ 8 = λ j h. simp (length-take, length-drop) (omega arith) in
      let n : length (branch_bytes e i t r) ≡ 4 + 12 * i = length_branch e i t r (λ j h. wide j (omega arith)) in
      let m : length (branch_bytes e i t r ++ t i) ≡ a = simp length-append (omega (arith, wide i (omega arith))) in
      more (branch_bytes e i t r ++ t i) (bytes4 (r i)) o l x a m (skip (branch_bytes e i t r) o l (4 + 12 * i) 8 n (omega arith) el) ex
      ∙ rw (blocks_more (λ i. t i ++ bytes4 (r i)) i, append_assoc, append_assoc)

-- a branch as it is written at first, from its challenge and where its nonces or responses start
pub drafted_branch : (g : Parameters) (claim : ℕ → ℕ → Statement) (plan : Plan) (draws : List ℕ) (l i S at e first : ℕ) (o o' : List ℕ) (h k : Hasher) → i ≡ S → at ≡ plan_draws plan l →
    e ≡ cond (eqb l plan.known) 0 (get_or draws at 0) → first ≡ cond (eqb l plan.known) at (at + 1) →
    Branched (claim l) e i (λ i. drafted g (claim l i) (eqb l plan.known) e (get_or draws (first + i) 0)) (λ i. get_or draws (first + i) 0) o o' h k →
    Branched (claim l) (draft_challenge plan draws l) S (draft_commitments g claim plan draws l) (draft_responses plan draws l) o o' h k
unfolding draft_challenge draft_commitments draft_responses
drafted_branch g claim plan draws l i S at e first o o' h k n ea ee ef b =
    let Said : ℕ → ℕ → Type 0 = λ e first.
    Branched (claim l) e S (λ i. drafted g (claim l i) (eqb l plan.known) e (get_or draws (first + i) 0)) (λ i. get_or draws (first + i) 0) o o' h k in
    subst (λ (e : ℕ). Said e (cond (eqb l plan.known) (plan_draws plan l) (plan_draws plan l + 1))) (rw ea at ee) (subst (λ (first : ℕ). Said e first) (rw ea at ef) (rw n at b))
