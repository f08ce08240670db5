-- A proof that the writer makes for a true claim is taken by the checker.
use Prim.Native.Nat.{ℕ, ◌+◌, ◌*◌, ◌-◌, ◌%◌, ◌^◌, ◌≤◌, ◌<◌}
use native.Mathlib.Nat.{mod-lt, mod-mod, mul-le-mul_right, add_assoc, mod_self, zero-mod, add-mod-mod, mod-add-mod, add-zero, sub-add_cancel}
use native.Mathlib.Omega.{arith}
use mathlib.Core.Path.{◌≡◌, refl, sym, subst, fun_ext, ◌∙◌}
use mathlib.Core.Bool.{true, false, cond}
use mathlib.Core.List.{List, ◌++◌}
use lib.Dec.{ltb, eqb}
use borrow.Author.Tests.{ltb-true, ltb-false, eqb-true, eqb-false}
use Rattle.numbers.specs.Below.{sum_below, concat_below}
use Rattle.rules.specs.Bytes.{number4, bytes4, Stands}
use Rattle.group.specs.Elements.{Parameters, is_element}
use Rattle.group.specs.Arithmetic.{pow_mod}
use Rattle.numbers.proofs.Residues.{mul_mod_right}
use Rattle.rules.specs.Proofs.{Statement, Commitments, Context, branch_at, statement_at, commitments_at}
use Rattle.jobs.specs.Prover.{Prover, commitment_bytes, committed, whole_challenge, true_challenge, challenge_of, response_of, proof_bytes, draws_of, branch_bytes}
use Rattle.numbers.proofs.Tests.{by_cases}
use Rattle.numbers.proofs.Sums.{sum_one_out, sum_same, sum_add, sum_multiples}
use Rattle.rules.proofs.Elements.{Good, root_mul, root_pow, root_mod, root_element}
use Rattle.numbers.proofs.Completeness.{false_equation, true_equation}
use Rattle.rules.proofs.Places.{stands_left, stands_right, stands_moved, stands_block, word_stands}
use Rattle.rules.proofs.Messages.{message_same}
use Rattle.jobs.proofs.Lengths.{length_branch}
use Rattle.jobs.proofs.Commitments.{commitment, committed_is}
use Rattle.whole.specs.Rules.{ProofFields, ProofEquations}

-- what makes a proof honest: sides that are elements, a true branch whose witness is known, draws below q
pub record Honest (g : Parameters) (pr : Prover) : Type 0 where
  pub good : Good g
  pub inside : pr.known < pr.branches
  pub root_left : (l i : ℕ) → l < pr.branches → i < pr.statements → (pr.claim l i).left ^ g.q % g.p ≡ 1
  pub root_right : (l i : ℕ) → l < pr.branches → i < pr.statements → (pr.claim l i).right ^ g.q % g.p ≡ 1
  pub known_left : (i : ℕ) → i < pr.statements → (pr.claim pr.known i).left % g.p ≡ g.g0 ^ pr.witness i % g.p
  pub known_right : (i : ℕ) → i < pr.statements → (pr.claim pr.known i).right % g.p ≡ g.g1 ^ pr.witness i % g.p
  pub drawn : (d : ℕ) → d + 1 < pr.branches * (1 + pr.statements) → pr.draw (pr.from + d) < g.q

module _ (hash : List ℕ → List ℕ) (label : List ℕ) (g : Parameters) (pr : Prover) where
  open pr use {branches, statements, claim, known, witness, draw, from}

  abbrev challenge : ℕ → ℕ
  challenge l = challenge_of g pr hash label l

  abbrev response : (l i : ℕ) → ℕ
  response l i = response_of g pr hash label l i

  abbrev commit : (base side l i : ℕ) → ℕ
  commit base side l i = commitment g pr base side l i

  abbrev pair : (l i : ℕ) → Commitments
  pair l i = record { t1 = commit g.g0 (claim l i).left l i; t2 = commit g.g1 (claim l i).right l i }

  abbrev both : (l i : ℕ) → List ℕ
  both l i = commitment_bytes (pair l i)

  committed_pair : committed g pr ≡ pair
  committed_pair = fun_ext (λ l. fun_ext (λ i. committed_is g pr l i))

  abbrev whole : ℕ
  whole = whole_challenge g pr hash label

  abbrev bytes : List ℕ
  bytes = proof_bytes g pr hash label

  module _ (h : Honest g pr) where
    -- what a false branch draws
    false_draw : (l d : ℕ) → l < branches → d < 1 + statements → eqb l known ≡ false → draw (draws_of pr l + d) < g.q
    false_draw l d a b ne =
        by_cases (ltb known l)
        (λ c.
        let o : known < l = ltb-true known l c in
        let one : 1 * (1 + statements) ≤ l * (1 + statements) = mul-le-mul_right (1 + statements) (omega arith) in
        let up : (l + 1) * (1 + statements) ≤ branches * (1 + statements) = mul-le-mul_right (1 + statements) (omega arith) in
        let k : from + l * (1 + statements) - 1 + d ≡ from + (l * (1 + statements) - 1 + d) = omega arith in
        rw (c, k) (h.drawn (l * (1 + statements) - 1 + d) (omega arith)))
        (λ c.
        let o : l ≤ known = ltb-false known l c in
        let o' : ¬ (l ≡ known) = eqb-false l known ne in
        let up : (l + 2) * (1 + statements) ≤ branches * (1 + statements) = mul-le-mul_right (1 + statements) (omega (arith, h.inside)) in
        let k : from + l * (1 + statements) - 0 + d ≡ from + (l * (1 + statements) + d) = omega arith in
        rw (c, k) (h.drawn (l * (1 + statements) + d) (omega arith)))

    challenge_below : (l : ℕ) → l < branches → challenge l < g.q
    unfolding true_challenge
    challenge_below l a =
        by_cases (eqb l known)
        (λ c. rw c (mod-lt _ h.good.some_q))
        (λ c. rw c (rw add-zero at (false_draw l 0 a (omega arith) c)))

    response_below : (l i : ℕ) → l < branches → i < statements → response l i < g.q
    response_below l i a b =
        by_cases (eqb l known)
        (λ c. rw c (mod-lt _ h.good.some_q))
        (λ c. rw c (rw (← (add_assoc (draws_of pr l) 1 i)) at (false_draw l (1 + i) a (omega arith) c)))

    module _ (base side l i : ℕ) (a : l < branches) (b : i < statements)
        (root_base : base ^ g.q % g.p ≡ 1) (root_side : side ^ g.q % g.p ≡ 1) where
      commitment_element : is_element g.p g.q (commit base side l i) ≡ true
      unfolding commitment pow_mod
      commitment_element =
          by_cases (eqb l known)
          (λ c. rw c (root_element g h.good _ (root_pow g h.good base _ root_base)))
          (λ c. rw c (root_element g h.good _
          (root_mul g h.good _ _ (root_mod g h.good _ (root_pow g h.good base _ root_base)) (root_mod g h.good _ (root_pow g h.good side _ root_side)))))

      commitment_below : commit base side l i < g.p
      unfolding commitment pow_mod
      commitment_below = by_cases (eqb l known) (λ c. rw c (mod-lt _ (omega (arith, h.good.large)))) (λ c. rw c (mod-lt _ (omega (arith, h.good.large))))

      equation : (l ≡ known → side % g.p ≡ base ^ witness i % g.p) → base ^ response l i % g.p ≡ commit base side l i * side ^ challenge l % g.p
      unfolding commitment pow_mod
      equation k =
          by_cases (eqb l known)
          (λ c. rw c (true_equation g.p g.q base side _ _ _ root_base (k (eqb-true l known c))))
          (λ c.
          let e : draw (draws_of pr l) < g.q = rw add-zero at (false_draw l 0 a (omega arith) c) in
          rw c (false_equation g.p g.q base side _ _ (omega arith) root_side))

    -- the challenges add up
    challenges : sum_below branches challenge % g.q ≡ whole % g.q
    unfolding true_challenge
    challenges =
        let F : ℕ → ℕ = λ l. draw (draws_of pr l) in
        let S : ℕ = sum_below branches (λ l. cond (eqb l known) 0 (g.q - F l)) in
        let S' : ℕ = sum_below branches (λ l. cond (eqb l known) 0 (F l)) in
        let z : sum_below branches (λ l. cond (eqb l known) 0 (g.q - F l) + cond (eqb l known) 0 (F l)) % g.q ≡ 0 =
        sum_multiples g.q branches _ (λ l a. by_cases (eqb l known)
        (λ c. rw c (zero-mod g.q))
        (λ c. let e : draw (draws_of pr l) < g.q = rw add-zero at (false_draw l 0 a (omega arith) c) in
        rw c (rw (sub-add_cancel {n = g.q} {m = F l} (omega arith)) (mod_self g.q)))) in
        let z' : (S + S') % g.q ≡ 0 = rw (sum_add branches (λ l. cond (eqb l known) 0 (g.q - F l)) (λ l. cond (eqb l known) 0 (F l))) at z in
        rw (sum_one_out branches known ((whole + S) % g.q) F h.inside, mod-add-mod (whole + S) g.q S', add_assoc whole S S')
        (sym (add-mod-mod whole (S + S') g.q) ∙ rw (z', add-zero))

  -- ---- what is read where such a proof stands
  module _ (h : Honest g pr) (s : List ℕ) (at : ℕ) (stands : Stands s at bytes) where
    branch_stands : (l : ℕ) → l < branches → Stands s (branch_at at statements l) (bytes4 (challenge l) ++ concat_below statements (λ i. both l i ++ bytes4 (response l i)))
    unfolding proof_bytes branch_bytes
    branch_stands l a =
        stands_block branches (4 + 12 * statements) _ (λ l _. length_branch (challenge l) statements (both l) (response l) (λ _ _. refl))
        (subst (λ (t : ℕ → ℕ → Commitments). Stands s at (concat_below branches (λ l. branch_bytes (challenge l) statements (λ i. commitment_bytes (t l i)) (response l)))) committed_pair stands) l a

    read_challenge : (l : ℕ) → l < branches → number4 s (branch_at at statements l) ≡ challenge l
    read_challenge l a = word_stands (omega (arith, challenge_below h l a, h.good)) (stands_left (bytes4 (challenge l)) _ (branch_stands l a))

    module _ (l i : ℕ) (a : l < branches) (b : i < statements) where
      statement_stands : Stands s (statement_at at statements l i) (both l i ++ bytes4 (response l i))
      statement_stands =
          stands_moved (omega arith)
          (stands_block statements 12 (λ i. both l i ++ bytes4 (response l i)) (λ _ _. refl) (stands_right (bytes4 (challenge l)) _ refl (branch_stands l a)) i b)

      read_first : number4 s (statement_at at statements l i) ≡ commit g.g0 (claim l i).left l i
      read_first =
          word_stands (omega (arith, commitment_below h g.g0 (claim l i).left l i a b h.good.root0 (h.root_left l i a b), h.good))
          (stands_left (bytes4 (commit g.g0 (claim l i).left l i)) _ statement_stands)

      read_second : number4 s (statement_at at statements l i + 4) ≡ commit g.g1 (claim l i).right l i
      read_second =
          word_stands (omega (arith, commitment_below h g.g1 (claim l i).right l i a b h.good.root1 (h.root_right l i a b), h.good))
          (stands_left (bytes4 (commit g.g1 (claim l i).right l i)) _ (stands_right (bytes4 (commit g.g0 (claim l i).left l i)) _ refl statement_stands))

      read_pair : commitments_at s at statements l i ≡ committed g pr l i
      read_pair = rw (read_first, read_second) (sym (committed_is g pr l i))

      read_response : number4 s (statement_at at statements l i + 8) ≡ response l i
      read_response =
          word_stands (omega (arith, response_below h l i a b, h.good)) (stands_right (both l i) _ refl statement_stands)

    pub honest_fields : ProofFields s g at branches statements
    honest_fields =
        record {
          e_below = λ l a. rw (read_challenge l a) (challenge_below h l a);
          t1_element = λ l i a b. rw (read_first l i a b) (commitment_element h g.g0 (claim l i).left l i a b h.good.root0 (h.root_left l i a b));
          t2_element = λ l i a b. rw (read_second l i a b) (commitment_element h g.g1 (claim l i).right l i a b h.good.root1 (h.root_right l i a b));
          r_below = λ l i a b. rw (read_response l i a b) (response_below h l i a b);
        }

    -- the checker's context is the writer's; its claim need be the writer's at the proof's own branches and statements only
    pub honest_holds : (context' : Context) → context' ≡ pr.context →
        (claim' : ℕ → ℕ → Statement) → ((l i : ℕ) → l < branches → i < statements → claim' l i ≡ claim l i) →
        ProofEquations s g at branches statements hash label context' g.g0 g.g1 claim'
    unfolding pow_mod whole_challenge
    honest_holds context' in_context claim' same =
        record {
          first = λ l i a b.
              rw (same l i a b, read_first l i a b, read_response l i a b, read_challenge l a)
              (equation h g.g0 (claim l i).left l i a b h.good.root0 (h.root_left l i a b) (λ e. rw e (h.known_left i b)) ∙ sym (mul_mod_right _ _ g.p));
          second = λ l i a b.
              rw (same l i a b, read_second l i a b, read_response l i a b, read_challenge l a)
              (equation h g.g1 (claim l i).right l i a b h.good.root1 (h.root_right l i a b) (λ e. rw e (h.known_right i b)) ∙ sym (mul_mod_right _ _ g.p));
          adds_up =
              rw (
                sum_same branches (λ l. number4 s (branch_at at statements l)) challenge read_challenge,
                in_context,
                message_same label pr.context branches statements claim' claim (commitments_at s at statements) (committed g pr) same read_pair,
              )
              (challenges h ∙ mod-mod _ g.q);
        }
