-- A proof depends on its claims, and on its witnesses modulo q.
use Prim.Native.Nat.{ℕ, ◌+◌, ◌*◌, ◌%◌, ◌<◌}
use mathlib.Core.Path.{◌≡◌, ap, ap₂}
use mathlib.Core.List.{List, ◌++◌}
use native.Mathlib.Nat.{add-mod-mod}
use lib.Dec.{eqb}
use Rattle.numbers.proofs.Blocks.{blocks_same}
use Rattle.numbers.proofs.Tests.{by_cases}
use Rattle.numbers.proofs.Residues.{mul_mod_right}
use Rattle.group.specs.Elements.{Parameters}
use Rattle.rules.specs.Bytes.{bytes4}
use Rattle.rules.specs.Proofs.{Statement, Context}
use Rattle.rules.proofs.Messages.{message_same}
use Rattle.jobs.specs.Prover.{Prover, commitment_bytes, committed, response_of, whole_challenge, true_challenge, proof_bytes, branch_bytes}

module _ (hash : List ℕ → List ℕ) (label : List ℕ) (context : Context) (g : Parameters) (draw : ℕ → ℕ) (branches statements known from : ℕ) where
  abbrev maker : (ℕ → ℕ → Statement) → (ℕ → ℕ) → Prover
  maker claim w =
      record { context = context; branches = branches; statements = statements; claim = claim; known = known; witness = w; draw = draw; from = from }

  module _ (claim claim' : ℕ → ℕ → Statement) (w w' : ℕ → ℕ)
      (same : (l i : ℕ) → l < branches → i < statements → claim l i ≡ claim' l i)
      (near : (i : ℕ) → i < statements → w i % g.q ≡ w' i % g.q) where
    same_committed : (l i : ℕ) → l < branches → i < statements → committed g (maker claim w) l i ≡ committed g (maker claim' w') l i
    same_committed l i h k = by_cases (eqb l known) (λ e. rw e) (λ e. rw (e, same l i h k))

    same_whole : whole_challenge g (maker claim w) hash label ≡ whole_challenge g (maker claim' w') hash label
    unfolding whole_challenge
    same_whole = rw (message_same label context branches statements claim claim' (committed g (maker claim w)) (committed g (maker claim' w')) same same_committed)

    same_true : true_challenge g (maker claim w) hash label ≡ true_challenge g (maker claim' w') hash label
    unfolding true_challenge
    same_true = rw same_whole

    answer_near : (a c x y : ℕ) → x % g.q ≡ y % g.q → (a + c * x) % g.q ≡ (a + c * y) % g.q
    answer_near a c x y e =
        cc (add-mod-mod a (c * x) g.q, add-mod-mod a (c * y) g.q, mul_mod_right c x g.q, mul_mod_right c y g.q)

    same_response : (l i : ℕ) → i < statements → response_of g (maker claim w) hash label l i ≡ response_of g (maker claim' w') hash label l i
    same_response l i k =
        by_cases (eqb l known) (λ e. rw (e, same_true) (answer_near _ _ (w i) (w' i) (near i k))) (λ e. rw e)

    pub proof_same : proof_bytes g (maker claim w) hash label ≡ proof_bytes g (maker claim' w') hash label
    unfolding proof_bytes branch_bytes
    proof_same =
        blocks_same branches _ _ (λ l h.
        ap₂ ◌++◌ (ap bytes4 (by_cases (eqb l known) (λ e. rw (e, same_true)) (λ e. rw e)))
        (blocks_same statements _ _ (λ i k. ap₂ ◌++◌ (ap commitment_bytes (same_committed l i h k)) (ap bytes4 (same_response l i k)))))
