-- The proof of the rules, from the branches that are held and the known branch's answers.
use Prim.Native.Nat.{ℕ, zero, suc, ◌+◌, ◌*◌, ◌-◌, ◌%◌, ◌≤◌, ◌<◌}
use mathlib.Core.Path.{◌≡◌, refl, sym, ap, ap₂, ◌∙◌}
use mathlib.Core.Bool.{true}
use mathlib.Core.List.{List, ◌++◌, append_assoc, append-nil}
use native.Mathlib.Nat.{add-zero, add-suc, mul-le-mul_right}
use native.Mathlib.Numerals.{add-one}
use native.Mathlib.Omega.{arith}
use borrow.Author.Tests.{eq-eqb, ne_eqb, eqb-true}
use borrow.Rule.Slice.PartMut.{mid_of, put_mid}
use lib.Dec.{eqb}
use lib.ListN.{length}
use lib.Seq.{drop_at, take_at}
use Rattle.numbers.specs.Below.{concat_below}
use Rattle.numbers.proofs.Blocks.{blocks_same, length_blocks}
use Rattle.numbers.proofs.Tests.{by_cases}
use Rattle.sha256.specs.declared.Hasher.{Hasher}
use Rattle.sha256.specs.Message.{sha256}
use Rattle.rules.specs.Bytes.{bytes4, number8, part}
use Rattle.group.specs.Elements.{Parameters}
use Rattle.group.specs.declared.Exponent.{Exponent}
use Rattle.rules.specs.Proofs.{Statement, Context, context_bytes, message}
use Rattle.jobs.specs.Prover.{Prover, commitment_bytes, committed, challenge_of, response_of, whole_challenge, true_challenge, proof_bytes, branch_bytes}
use Rattle.output.specs.Written.{written}
use Rattle.output.proofs.Laws.{more, patch, rest_from, blocks_more}
use Rattle.proving.specs.declared.Plan.{Plan}
use Rattle.proving.specs.Plans.{branch_said, Branched, drafted, draft_challenge, draft_commitments, draft_responses, draft_branch, false_complements, plan_draws, answers, prover_of, proof_of}
use Rattle.rules.proofs.Messages.{message_same}
use Rattle.jobs.proofs.Lengths.{length_branch}

-- a run of blocks around its k-th
blocks_around : (f : ℕ → List ℕ) (k d : ℕ) → concat_below (k + 1 + d) f ≡ concat_below k f ++ (f k ++ concat_below d (λ j. f (k + 1 + j)))
unfolding concat_below
blocks_around f k zero = rw (add-zero, add-one, append-nil)
blocks_around f k (suc d) = rw (add-suc, blocks_around f k d, append_assoc, append_assoc)

branch_same : (e e' S : ℕ) (t t' : ℕ → List ℕ) (r r' : ℕ → ℕ) → e ≡ e' → ((i : ℕ) → i < S → t i ≡ t' i) → ((i : ℕ) → i < S → r i ≡ r' i) →
    branch_bytes e S t r ≡ branch_bytes e' S t' r'
unfolding branch_bytes
branch_same e e' S t t' r r' a b c =
    ap₂ ◌++◌ (ap bytes4 a) (blocks_same S (λ i. t i ++ bytes4 (r i)) (λ i. t' i ++ bytes4 (r' i)) (λ i h. ap₂ ◌++◌ (b i h) (ap bytes4 (c i h))))

-- the commitments of a branch's i-th statement, wherever more stands after the branch
branch_part : (e d : ℕ) (t : ℕ → List ℕ) (r : ℕ → ℕ) (y : List ℕ) → ((i : ℕ) → length (t i) ≡ 8) → (i : ℕ) →
    part (branch_bytes e (i + 1 + d) t r ++ y) (4 + 12 * i) 8 ≡ t i
unfolding branch_bytes
branch_part e d t r y wide i =
    let f : ℕ → List ℕ = λ i. t i ++ bytes4 (r i) in
    let z : List ℕ = bytes4 (r i) ++ (concat_below d (λ j. f (i + 1 + j)) ++ y) in
    let s : branch_bytes e (i + 1 + d) t r ++ y ≡ branch_bytes e i t r ++ (t i ++ z) = rw (blocks_around f i d) (simp append_assoc) in
    rw (s, drop_at (branch_bytes e i t r) (t i ++ z) (4 + 12 * i) (length_branch e i t r (λ j h. wide j))) (take_at (t i) z 8 (wide i))

-- a branch's end is within the proof
pub in_proof : (plan : Plan) (l : ℕ) → l < plan.branches → (l + 1) * (4 + 12 * plan.statements) ≤ plan.branches * (4 + 12 * plan.statements)
in_proof plan l h = mul-le-mul_right (4 + 12 * plan.statements) (omega arith)

-- the branches as they are held
module _ (g : Parameters) (claim : ℕ → ℕ → Statement) (plan : Plan) (draws : List ℕ) where
  abbrev held : ℕ → List ℕ
  held = draft_branch g claim plan draws

  abbrev held_ts : (l i : ℕ) → List ℕ
  held_ts l i = commitment_bytes (draft_commitments g claim plan draws l i)

  pub length_held : (l : ℕ) → length (held l) ≡ 4 + 12 * plan.statements
  unfolding draft_branch
  length_held l = length_branch _ plan.statements _ _ (λ _ _. refl)

  held_part : (l i : ℕ) (y : List ℕ) → i < plan.statements → part (held l ++ y) (4 + 12 * i) 8 ≡ held_ts l i
  unfolding draft_branch
  held_part l i y h =
      let n : i + 1 + (plan.statements - i - 1) ≡ plan.statements = omega arith in
      rw n at (branch_part (draft_challenge plan draws l) (plan.statements - i - 1) (held_ts l) (draft_responses plan draws l) y (λ _. refl) i)

  -- one more branch is held
  pub held_more : (l a : ℕ) (o out x : List ℕ) (h k : Hasher) → a ≡ l * (4 + 12 * plan.statements) → out ≡ written (concat_below l held) o →
      Branched (claim l) (draft_challenge plan draws l) plan.statements (draft_commitments g claim plan draws l) (draft_responses plan draws l) (mid_of a (length out - a) out) x h k →
      put_mid a (length out - a) out x ≡ written (concat_below (l + 1) held) o
  unfolding draft_branch
  held_more l a o out x h k ea eo b =
      more (concat_below l held) (held l) o out x a (length_blocks l (4 + 12 * plan.statements) held (λ l h. length_held l) ∙ sym ea) eo b.wrote
      ∙ rw (blocks_more held l)

module _ (label : List ℕ) (context : Context) (g : Parameters) (claim : ℕ → ℕ → Statement) (plan : Plan) (witness : List Exponent) (draws : List ℕ) where
  abbrev pr : Prover
  pr = prover_of context claim plan witness draws

  abbrev ts : (l i : ℕ) → List ℕ
  ts l i = commitment_bytes (committed g pr l i)

  abbrev es : ℕ → ℕ
  es l = challenge_of g pr sha256 label l

  abbrev rs : (l i : ℕ) → ℕ
  rs l i = response_of g pr sha256 label l i

  abbrev c : ℕ
  c = true_challenge g pr sha256 label

  abbrev first : ℕ → List ℕ
  first = held g claim plan draws

  final : ℕ → List ℕ
  final l = branch_bytes (es l) plan.statements (ts l) (rs l)

  proof_is : proof_of label context g claim plan witness draws ≡ concat_below plan.branches final
  unfolding proof_bytes final branch_bytes
  proof_is = refl

  same_commitments : (l i : ℕ) → committed g pr l i ≡ draft_commitments g claim plan draws l i
  unfolding draft_commitments drafted draft_challenge draft_responses
  same_commitments l i =
      by_cases (eqb l plan.known)
      (λ e. let k : l ≡ plan.known = eqb-true l plan.known e in rw (e, k))
      (λ e. rw e)

  same_ts : (l i : ℕ) → ts l i ≡ held_ts g claim plan draws l i
  same_ts l i = ap commitment_bytes (same_commitments l i)

  length_final : (l : ℕ) → length (final l) ≡ 4 + 12 * plan.statements
  unfolding final
  length_final l = length_branch _ plan.statements _ _ (λ _ _. refl)

  -- a branch other than the known one is as it was held
  same_branch : (l : ℕ) → (l ≡ plan.known → ⊥) → first l ≡ final l
  unfolding draft_branch final draft_challenge draft_responses
  same_branch l n =
      branch_same _ _ plan.statements _ _ _ _ (rw (ne_eqb l plan.known n)) (λ i h. sym (same_ts l i)) (λ i h. rw (ne_eqb l plan.known n))

  -- the challenge that is left for the known branch
  pub challenge_is : (e whole sum : ℕ) (digest : List ℕ) →
      digest ≡ sha256 (label ++ context_bytes context ++ concat_below plan.branches (λ l. branch_said plan.statements (claim l) (draft_commitments g claim plan draws l))) →
      whole ≡ number8 digest 0 % g.q → sum ≡ false_complements g.q plan draws plan.branches → e ≡ (whole + sum) % g.q → e ≡ c
  unfolding true_challenge whole_challenge false_complements message
  challenge_is e whole sum digest ed ew ea ee =
      ee ∙ rw (ew, ed, ea, message_same label context plan.branches plan.statements claim claim (committed g pr) (draft_commitments g claim plan draws) (λ _ _ _ _. refl) (λ l i _ _. same_commitments l i))

  -- the known branch with its answers
  known_branch : (e at : ℕ) (t : ℕ → List ℕ) → e ≡ c → at ≡ plan_draws plan plan.known →
      ((i : ℕ) → i < plan.statements → t i ≡ held_ts g claim plan draws plan.known i) →
      branch_bytes e plan.statements t (answers g.q e witness draws at) ≡ final plan.known
  unfolding final
  known_branch e at t h a s =
      let k : eqb plan.known plan.known ≡ true = eq-eqb plan.known plan.known refl in
      branch_same e (es plan.known) plan.statements t (ts plan.known) (answers g.q e witness draws at) (rs plan.known)
      (h ∙ rw k) (λ i m. s i m ∙ sym (same_ts plan.known i)) (λ i m. rw (k, h, a))

  module _ (inside : plan.known < plan.branches) where
    rest : ℕ
    rest = plan.branches - plan.known - 1

    around : (f : ℕ → List ℕ) → concat_below plan.branches f ≡ concat_below plan.known f ++ (f plan.known ++ concat_below rest (λ j. f (plan.known + 1 + j)))
    unfolding rest
    around f =
        let n : plan.branches ≡ plan.known + 1 + rest = omega arith in
        ap (λ (m : ℕ). concat_below m f) n ∙ blocks_around f plan.known rest

    pub joined : (o l r : List ℕ) (a e at : ℕ) → a ≡ plan.known * (4 + 12 * plan.statements) → e ≡ c → at ≡ plan_draws plan plan.known →
        l ≡ written (concat_below plan.branches first) o →
        r ≡ written (branch_bytes e plan.statements (λ i. part (mid_of a (length l - a) l) (4 + 12 * i) 8) (answers g.q e witness draws at)) (mid_of a (length l - a) l) →
        put_mid a (length l - a) l r ≡ written (proof_of label context g claim plan witness draws) o
    joined o l r a e at ea ee eat el er =
        let x : List ℕ = concat_below plan.known first in
        let old : List ℕ = first plan.known in
        let y : List ℕ = concat_below rest (λ j. first (plan.known + 1 + j)) in
        let n : length x ≡ a = length_blocks plan.known (4 + 12 * plan.statements) first (λ l h. length_held g claim plan draws l) ∙ sym ea in
        let el' : l ≡ written (x ++ (old ++ y)) o = el ∙ ap (λ (w : List ℕ). written w o) (around first) in
        let new : branch_bytes e plan.statements (λ i. part (mid_of a (length l - a) l) (4 + 12 * i) 8) (answers g.q e witness draws at) ≡ final plan.known =
        known_branch e at (λ i. part (mid_of a (length l - a) l) (4 + 12 * i) 8) ee eat
        (λ i h. rw (rest_from x (old ++ y) o l a n el', append_assoc) (held_part g claim plan draws plan.known i _ h)) in
        let m : length (final plan.known) ≡ length old = length_final plan.known ∙ sym (length_held g claim plan draws plan.known) in
        patch x old (final plan.known) y o l r a n m el' (er ∙ ap (λ (w : List ℕ). written w (mid_of a (length l - a) l)) new)
        ∙ ap (λ (w : List ℕ). written w o)
        (ap₂ ◌++◌ (blocks_same plan.known first final (λ l h. same_branch l (λ k. omega arith)))
        (ap (λ (w : List ℕ). final plan.known ++ w)
        (blocks_same rest (λ j. first (plan.known + 1 + j)) (λ j. final (plan.known + 1 + j)) (λ j h. same_branch (plan.known + 1 + j) (λ k. omega arith))))
        ∙ sym (around final) ∙ sym proof_is)
