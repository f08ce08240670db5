use Prim.Native.Nat.{ℕ, ◌+◌, ◌*◌, ◌%◌, ◌≤◌}
use mathlib.Core.Path.{refl, ap, ◌∙◌}
use native.Mathlib.Omega.{arith}
use lib.ListN.{length, length-take, length-drop}
use Rattle.group.specs.Elements.{parameters_of}
use Rattle.sha256.proofs.Feed.{fed_digest}
use Rattle.statements.specs.Claims.{claim_of}
use Rattle.proving.proofs.Draws.{true_fits}
use Rattle.proving.proofs.Joining.{in_proof, challenge_is, joined}
use Rattle.proving.proofs.make.Goals.{Start}
use Rattle.proving.proofs.make.Goals as goal

-- the known branch's end is within the proof
known_within : (s : goal.Start) → let f = s.args in (f.inputs.plan.known + 1) * (4 + 12 * f.inputs.plan.statements) ≤ length f.out.now
known_within s = let i = s.args.inputs in omega (arith, in_proof i.plan i.plan.known i.planned.drawn.known, s.requires.0)

pub answer-requires : goal.answer-requires
answer-requires c =
    let d = c.args.inputs.planned.drawn in record {
      q_nonzero = (d.positive, c.requires.1, simp (length-take, length-drop) (omega (arith, known_within (goal.at.answer-requires c).Start)));
      statements_in_bounds = rw c.branch_draws-at.ensures (true_fits _ c.args.inputs.plan c.args.inputs.draws.now d c.args.inputs.plan.known d.known refl);
    }

pub returns : goal.returns
returns c label context fed =
    let f = c.args in
    let g = parameters_of f.inputs.setup.group in
    let cl = claim_of f.inputs.page.now g f.inputs.plan.claim in
    let all = c.commit.ensures in
    let digest = fed_digest _ _ (all.fed _ fed) _ c.finish-digest.ensures in
    let sum = c.false_complements-sum.ensures.0 in
    let e = challenge_is label context g cl f.inputs.plan f.witness f.inputs.draws.now _ _ _ _ digest
    c.challenge-whole.ensures sum (c.reduce-e.ensures ∙ ap (λ (x : ℕ). (x + c.false_complements-sum.result) % g.q) c.from.ensures) in
    joined label context g cl f.inputs.plan f.witness f.inputs.draws.now c.args.inputs.planned.drawn.known f.out.now _ _ _ _ _ refl e
    c.branch_draws-at.ensures all.wrote c.answer.ensures

pub false_complements-sum-requires : goal.false_complements-sum-requires
false_complements-sum-requires c = c.args.inputs.planned.drawn

pub challenge-whole-requires : goal.challenge-whole-requires
challenge-whole-requires c = c.args.inputs.planned.drawn.positive

pub reduce-e-requires : goal.reduce-e-requires
reduce-e-requires c = c.args.inputs.planned.drawn.positive

pub branch_draws-at-requires : goal.branch_draws-at-requires
branch_draws-at-requires c = let d = c.args.inputs.planned.drawn in (omega (arith, d.few, d.known), d.small, d.near)
