use Prim.Native.Nat.{◌+◌, ◌*◌, ◌≤◌}
use mathlib.Core.Path.{◌≡◌, refl}
use mathlib.Core.List.{append-nil}
use native.Mathlib.Omega.{arith}
use lib.ListN.{length, length-take, length-drop}
use Rattle.numbers.specs.Below.{concat_below}
use Rattle.group.specs.Elements.{parameters_of}
use Rattle.statements.specs.Claims.{claim_of}
use Rattle.output.proofs.Laws.{none}
use Rattle.proving.specs.Plans.{branch_said, draft_commitments}
use Rattle.statements.proofs.Branches.{fed_below_more}
use Rattle.proving.proofs.Joining.{held_more, in_proof}
use borrow.Author.Rules.{rules}
use Rattle.proving.proofs.commit.Goals.{In-loop-l}
use Rattle.proving.proofs.commit.Goals as goal

pub loop-l-init : goal.loop-l-init
unfolding concat_below
loop-l-init c = (omega arith, refl, none _, λ m f. rw append-nil f)

-- the branch's end is within the proof
within : (c : goal.In-loop-l) → (c.loop-l.l + 1) * (4 + 12 * c.args.inputs.plan.statements) ≤ length c.args.out.now
within c = omega (arith, in_proof c.args.inputs.plan c.loop-l.l (omega arith), c.requires)

pub commit_branch-h-requires : goal.commit_branch-h-requires
commit_branch-h-requires c =
    (omega arith, simp (length-take, length-drop) (omega (arith, within (goal.at.commit_branch-h-requires c).In-loop-l, c.loop-l.invariant.1)))

pub loop-l-preserved : goal.loop-l-preserved
loop-l-preserved c =
    let l = c.loop-l in
    let f = c.args in
    let g = parameters_of f.inputs.setup.group in
    let cl = claim_of f.inputs.page.now g f.inputs.plan.claim in
    let b = c.commit_branch-h.ensures in (
      omega arith,
      search rules,
      held_more g cl f.inputs.plan f.inputs.draws.now l.l _ f.out.now l.out _ _ _ refl l.invariant.2 b,
      λ m h. fed_below_more (λ l. branch_said f.inputs.plan.statements (cl l) (draft_commitments g cl f.inputs.plan f.inputs.draws.now l)) l.l m _ (b.fed _ (l.invariant.3 m h)),
    )

pub returns : goal.returns
returns c =
    let l = c.loop-l in
    let all : l.l ≡ c.args.inputs.plan.branches = omega arith in
    record { wrote = rw all at l.invariant.2; fed = λ m f. rw all at (l.invariant.3 m f) }
