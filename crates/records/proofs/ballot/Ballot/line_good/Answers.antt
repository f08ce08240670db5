use Prim.Native.Nat.{ℕ, ◌+◌, ◌*◌, ◌≤◌, ◌<◌}
use mathlib.Core.Path.{ap, ◌∙◌}
use mathlib.Core.List.{[]}
use native.Mathlib.Omega.{arith}
use Rattle.group.specs.Elements.{parameters_of}
use Rattle.rules.specs.Bytes.{number2}
use Rattle.rules.specs.Proofs.{Statement}
use Rattle.rules.specs.Ballot.{ballot_context}
use Rattle.rules.proofs.Sizes.{cells}
use Rattle.statements.proofs.Lines.{line_fits}
use Rattle.statements.proofs.Places.{line_claimed, line_stands}
use Rattle.records.specs.Parts.{proof_at}
use Rattle.records.proofs.ballot.Ballot.line_good.Goals.{After-line_of-line}
use Rattle.records.proofs.ballot.Ballot.line_good.Goals as goal

-- the line is within the matrix, which is small
small : (c : goal.After-line_of-line) → let n = c.args.self.now.h.n in
    let line = c.line_of-line.result in (line.start < n * n) × (line.stride ≤ n * n) × (n * n ≤ 64)
small c =
    let w = line_fits c.args.self.now.h.n c.args.t c.requires in
    (rw c.line_of-line.ensures.0 w.0, rw c.line_of-line.ensures.1 w.1, cells c.args.self.now.h.n c.args.self.now.known.high)

pub overflow_mul-claim : goal.overflow_mul-claim
overflow_mul-claim c = omega (arith, small (goal.at.overflow_mul-claim c).After-line_of-line)

pub overflow_add-claim-2 : goal.overflow_add-claim-2
overflow_add-claim-2 c = omega (arith, small (goal.at.overflow_add-claim-2 c).After-line_of-line, c.well_formed)

pub overflow_mul-claim-2 : goal.overflow_mul-claim-2
overflow_mul-claim-2 c = omega (arith, small (goal.at.overflow_mul-claim-2 c).After-line_of-line)

pub proof_good-requires-clause-by_index : goal.proof_good-requires-clause-by_index
proof_good-requires-clause-by_index c l i hl hi =
    let a = c.args.self.now in
    rw (c.line_of-line.ensures.0, c.line_of-line.ensures.1)
    (line_stands a.board.now (parameters_of a.h.setup.group) a.h.n (a.at + 5) [] (omega arith) l i c.args.t c.requires)

pub returns : goal.returns
returns c =
    let a = c.args.self.now in
    let context = ballot_context (number2 a.board.now (a.at + 2)) (a.h.n * a.h.n + c.args.t) in
    c.proof_good.ensures context c.prefix-prefix.ensures
    ∙ ap (λ (f : ℕ → ℕ → Statement). proof_at a.board.now a.h context (a.at + 5 + 40 * (a.h.n * a.h.n) + 16 * c.args.t) 1 1 f)
    (rw (c.line_of-line.ensures.0, c.line_of-line.ensures.1) (line_claimed a.board.now (parameters_of a.h.setup.group) a.h.n (a.at + 5) c.args.t))
