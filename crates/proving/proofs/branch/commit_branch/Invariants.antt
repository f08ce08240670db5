use Prim.Native.Nat.{ℕ, ◌+◌, ◌-◌, ◌≤◌}
use mathlib.Core.Path.{◌≡◌}
use mathlib.Core.List.{List, ◌++◌}
use lib.ListN.{length, get_or}
use Rattle.group.specs.Elements.{parameters_of}
use Rattle.rules.specs.Bytes.{bytes4}
use Rattle.sha256.specs.Feed.{Fed}
use Rattle.statements.specs.Claims.{claim_of}
use Rattle.output.specs.Written.{written}
use Rattle.rules.specs.Proofs.{Commitments}
use Rattle.jobs.specs.Prover.{commitment_bytes, branch_bytes}
use Rattle.proving.specs.Plans.{branch_said, drafted}
use Rattle.proving.proofs.branch.commit_branch.Given as goal

abbrev pub invariant-loop-i : goal.invariant-loop-i
invariant-loop-i l =
    let e = l.e.0 in
    let cl = claim_of l.inputs.page.now (parameters_of l.inputs.setup.group) l.plan.claim l.l in
    let r : ℕ → ℕ = λ i. get_or l.inputs.draws.now (l.first + i) 0 in
    let t : ℕ → Commitments = λ i. drafted (parameters_of l.inputs.setup.group) (cl i) l.known e (r i) in
    (l.i ≤ l.plan.statements) × (length l.out ≡ length l.initial.out)
    × ((o : List ℕ) → l.initial.out ≡ written (bytes4 e) o → l.out ≡ written (branch_bytes e l.i (λ i. commitment_bytes (t i)) r) o)
    × ((m : List ℕ) → Fed l.initial.k m → Fed l.k (m ++ branch_said l.i cl t))

abbrev pub decreases-loop-i : goal.decreases-loop-i
decreases-loop-i l = l.plan.statements - l.i
