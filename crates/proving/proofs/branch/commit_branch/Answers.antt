use Prim.Native.Nat.{ℕ, ◌+◌, ◌*◌, ◌^◌, ◌≤◌, ◌<◌}
use mathlib.Core.Path.{◌≡◌, refl, ◌∙◌}
use native.Mathlib.Omega.{arith}
use lib.Dec.{eqb}
use lib.ListN.{length, get_or, length-take, length-drop}
use Rattle.group.specs.Elements.{parameters_of}
use Rattle.statements.specs.Claims.{claim_of}
use Rattle.rules.specs.Proofs.{Commitments, statement_bytes}
use Rattle.proving.specs.Plans.{drafted}
use Rattle.proving.proofs.Stating.{stated_as}
use Rattle.proving.proofs.Draws.{draft_near, draft_at, draft_fits, draft_low}
use Rattle.statements.proofs.Branches.{fed_below_none, fed_below_more}
use Rattle.proving.proofs.Branches.{branch_none, branch_more, drafted_branch}
use borrow.Author.Rules.{rules}
use Rattle.proving.proofs.branch.commit_branch.Goals.{After-after_challenge-first}
use Rattle.proving.proofs.branch.commit_branch.Goals as goal

-- the nonces or responses are all there
fits : (c : goal.After-after_challenge-first) → let f = c.args in
    (c.after_challenge-first.result + f.inputs.plan.statements ≤ length f.inputs.draws.now) × (length f.inputs.draws.now * 4 < 2 ^ 64)
    × (4 + 12 * f.inputs.plan.statements ≤ length f.out.now) × (length f.out.now < 2 ^ 64)
fits c = (
  draft_fits _ c.args.inputs.plan c.args.inputs.draws.now c.args.inputs.planned.drawn c.args.l c.requires.0 _ c.branch_draws-at.ensures _ c.after_challenge-first.ensures,
  omega (arith, c.well_formed),
  c.requires.1,
  omega (arith, c.well_formed),
)

pub put_draft-k-requires : goal.put_draft-k-requires
put_draft-k-requires c = (
  simp (length-take, length-drop) (omega (arith, fits (goal.at.put_draft-k-requires c).After-after_challenge-first, c.loop-i.invariant.1)),
  c.args.inputs.ready.p_pos,
  draft_low _ c.args.inputs.plan c.args.inputs.draws.now c.args.inputs.planned.drawn c.args.l c.requires.0 _ c.branch_draws-at.ensures _ c.first_challenge-e.ensures,
)

pub loop-i-preserved : goal.loop-i-preserved
loop-i-preserved c =
    let l = c.loop-i in
    let f = c.args in
    let g = parameters_of f.inputs.setup.group in
    let cl = claim_of f.inputs.page.now g f.inputs.plan.claim f.l in
    let e = c.first_challenge-e.result.0 in
    let known = eqb f.l f.inputs.plan.known in
    let r : ℕ → ℕ = λ i. get_or f.inputs.draws.now (c.after_challenge-first.result + i) 0 in
    let t : ℕ → Commitments = λ i. drafted g (cl i) known e (r i) in
    let p = stated_as _ _ _ _ _ (λ st. drafted g st known e (r l.i)) _ (cl l.i) c.claimed-s.ensures c.put_draft-k.ensures in (
      omega arith,
      search rules,
      λ o h. branch_more _ t r l.i _ o l.out _ refl (l.invariant.2 o h) p,
      λ m h. fed_below_more (λ i. statement_bytes (cl i) (t i)) l.i m _ (p.fed _ (l.invariant.3 m h)),
    )

pub returns : goal.returns
returns c =
    let l = c.loop-i in
    let f = c.args in
    let g = parameters_of f.inputs.setup.group in
    let n : l.i ≡ f.inputs.plan.statements = omega arith in
    drafted_branch g (claim_of f.inputs.page.now g f.inputs.plan.claim) f.inputs.plan f.inputs.draws.now f.l _ _ c.branch_draws-at.result _ _ _ _ _ _ n c.branch_draws-at.ensures
    c.first_challenge-e.ensures c.after_challenge-first.ensures
    (record { wrote = l.invariant.2 _ c.put_number4.ensures; fed = l.invariant.3 })

pub first_challenge-e-requires : goal.first_challenge-e-requires
first_challenge-e-requires c = draft_at _ c.args.inputs.plan c.args.inputs.draws.now c.args.inputs.planned.drawn c.args.l c.requires.0 _ c.branch_draws-at.ensures

pub after_challenge-first-requires : goal.after_challenge-first-requires
after_challenge-first-requires c = draft_near _ c.args.inputs.plan c.args.inputs.draws.now c.args.inputs.planned.drawn c.args.l c.requires.0 _ c.branch_draws-at.ensures

pub put_number4-requires : goal.put_number4-requires
put_number4-requires c = omega (arith, c.requires.1)

pub loop-i-init : goal.loop-i-init
loop-i-init c = (omega arith, refl, λ o h. h ∙ branch_none _ _ _ o, λ m h. fed_below_none _ m _ h)

pub claimed-s-requires : goal.claimed-s-requires
claimed-s-requires c =
    record {
      ready = c.args.inputs.ready;
      within = c.args.inputs.planned.ready c.args.l c.loop-i.i c.requires.0 (omega arith);
    }
