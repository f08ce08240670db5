use Prim.Native.Nat.{ℕ, ◌+◌, ◌*◌, ◌-◌, ◌%◌, ◌≤◌, ◌<◌}
use mathlib.Core.Path.{ap, ◌∙◌}
use mathlib.Core.List.{List}
use native.Mathlib.Omega.{arith}
use lib.ListN.{get_or}
use Rattle.sha256.proofs.Feed.{fed_more}
use Rattle.group.specs.Elements.{parameters_of}
use Rattle.rules.specs.Ballot.{ballot_context}
use Rattle.statements.specs.declared.claims.Claim.TheVariants.{Line}
use Rattle.statements.proofs.Lines.{line_within, line_fits}
use Rattle.output.specs.Written.{written}
use Rattle.ballots.specs.Parts.{line_said, line_of, line_sum}
use Rattle.ballots.proofs.Pages.{paged_same}
use Rattle.ballots.proofs.Secrets.{line_sum_lem}
use Rattle.rules.proofs.Sizes.{cells}
use Rattle.ballots.proofs.Entries.{spread_part, planned_line, line_ready, line_is, line_says}
use Rattle.ballots.proofs.prover.Prover.write_line.Goals.{After-line_of-line}
use Rattle.ballots.proofs.prover.Prover.write_line.Goals as goal

-- the line is within the matrix
fits : (c : goal.After-line_of-line) → let n = c.args.self.ballot.n in
    let line = c.line_of-line.result in
    (line.start + line.stride * (n - 1) < n * n) × (line.start < n * n) × (line.stride ≤ n * n) × (n * n ≤ 64)
fits c =
    let s = c.args.self in
    let n = s.ballot.n in
    let w = line_fits n c.args.t c.requires.0 in
    rw (c.line_of-line.ensures.0, c.line_of-line.ensures.1)
    (line_within n c.args.t (n - 1) c.requires.0 (omega (arith, s.some)), w.0, w.1, cells n s.few)

pub sum_of-sum-requires : goal.sum_of-sum-requires
sum_of-sum-requires c =
    let s = c.args.self in
    let f = fits (goal.at.sum_of-sum-requires c).After-line_of-line in
    (s.ready.q_pos, omega (arith, s.few), omega (arith, f), omega (arith, f, s.drawn.near), omega (arith, f, s.drawn.enough))

pub invariant_of-inputs : goal.invariant_of-inputs
invariant_of-inputs c =
    let s = c.args.self in
    let g = parameters_of s.setup.group in
    let line = c.line_of-line in
    record {
      ready = s.ready;
      planned =
          planned_line g s.page.now _ _ s.draws.now _
          (λ l i. rw (line.ensures.0, line.ensures.1) (line_ready g s.ballot.n s.page.now _ (omega (arith, s.long, cells s.ballot.n s.few)) l i c.args.t c.requires.0))
          (spread_part s.setup.group.q s.draws.now s.ballot.from _ _ 1 s.drawn (omega (arith, c.requires.0)));
    }

pub returns : goal.returns
unfolding line_of
returns c m fed =
    let s = c.args.self in
    let b = s.ballot in
    let line = c.line_of-line in
    let g = parameters_of s.setup.group in
    let list : ℕ → ℕ = λ k. get_or b.list k 0 in
    let context = ballot_context b.number (b.n * b.n + c.args.t) in
    c.make.ensures m context (fed_more _ m fed _ _ c.feed_context-prefix.ensures)
    ∙ ap (λ (x : List ℕ). written x c.args.out.now)
    (line_is (Line (8 * line.result.start) (8 * line.result.stride) b.n) m context g _
    (line_said m g b.n b.number list s.draws.now b.from c.args.t) _ (line_sum s.draws.now b.from b.n c.args.t) s.draws.now _
    (rw (line.ensures.0, line.ensures.1) (line_says g b.n b.number list s.page.now s.draws.now m b.from c.args.t c.requires.0
    (paged_same g b.n list s.draws.now b.from s.page.now 0 b.n s.ready.p_pos (omega (arith, c.well_formed)) s.paged)))
    (rw (line.ensures.0, line.ensures.1) at c.sum_of-sum.ensures
    ∙ ap (λ (x : ℕ). x % s.setup.group.q) (line_sum_lem s.draws.now b.from b.n c.args.t)))

pub line_of-line-requires : goal.line_of-line-requires
line_of-line-requires c = let s = c.args.self in (c.requires.0, omega (arith, cells s.ballot.n s.few))

pub overflow_add-first : goal.overflow_add-first
overflow_add-first c = omega (arith, fits (goal.at.overflow_add-first c).After-line_of-line, c.args.self.drawn.near)

pub overflow_mul-claim : goal.overflow_mul-claim
overflow_mul-claim c = omega (arith, fits (goal.at.overflow_mul-claim c).After-line_of-line)

pub overflow_mul-claim-2 : goal.overflow_mul-claim-2
overflow_mul-claim-2 c = omega (arith, fits (goal.at.overflow_mul-claim-2 c).After-line_of-line)
