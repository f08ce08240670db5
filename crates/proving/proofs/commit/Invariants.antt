use Prim.Native.Nat.{ℕ, ◌-◌, ◌≤◌}
use mathlib.Core.Path.{◌≡◌}
use mathlib.Core.List.{List, ◌++◌}
use lib.ListN.{length}
use Rattle.numbers.specs.Below.{concat_below}
use Rattle.sha256.specs.Feed.{Fed}
use Rattle.group.specs.Elements.{parameters_of}
use Rattle.statements.specs.Claims.{claim_of}
use Rattle.output.specs.Written.{written}
use Rattle.proving.specs.Plans.{branch_said, draft_commitments, draft_branch}
use Rattle.proving.proofs.commit.Given as goal

abbrev pub invariant-loop-l : goal.invariant-loop-l
invariant-loop-l v =
    let G = parameters_of v.inputs.setup.group in
    let C = claim_of v.inputs.page.now G v.inputs.plan.claim in
    (v.l ≤ v.inputs.plan.branches) × (length v.out ≡ length v.initial.out) × (v.out ≡ written (concat_below v.l (draft_branch G C v.inputs.plan v.inputs.draws.now)) v.initial.out)
    × ((m : List ℕ) → Fed v.initial.h m → Fed v.h (m ++ concat_below v.l (λ l. branch_said v.inputs.plan.statements (C l) (draft_commitments G C v.inputs.plan v.inputs.draws.now l))))

abbrev pub decreases-loop-l : goal.decreases-loop-l
decreases-loop-l l = l.inputs.plan.branches - l.l
