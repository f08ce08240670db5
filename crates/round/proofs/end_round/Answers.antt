use Prim.Native.Nat.{ℕ, ◌+◌, ◌^◌, ◌<◌}
use mathlib.Core.Path.{◌≡◌, ap, ◌∙◌}
use native.Mathlib.Nat.{le_refl}
use native.Mathlib.Omega.{arith}
use Rattle.std.proofs.Common.{rules}
use Rattle.std.specs.Prelude.{Ok, Err}
use Rattle.std.specs.Result.{MatchResult}
use Rattle.std.proofs.lemmas.Result.{err_from_is_err_and}
use Rattle.rules.proofs.Positions.{few_counted}
use Rattle.header.specs.Heads.{head_of}
use Rattle.round.specs.Outcomes.{RecordsReads, Rounded}
use Rattle.round.proofs.Walked.{number_small}
use Rattle.round.proofs.RoundEnds.{Stepping, stepping, numbered, by_records, by_sheet, by_end, by_rest, by_next}
use Rattle.round.proofs.end_round.Goals.{In_ok-read, After-map_err, in-Closed+else-board-step, in-Open}
use Rattle.round.proofs.end_round.Goals as goal

pub returns-in_err-read : goal.returns-in_err-read
returns-in_err-read c =
    let p = err_from_is_err_and c.from_residual.result c.from_residual.ensures.1 in
    rw (p.1, p.2) (by_records _ _ _ _ _ _ (rw c.in_err-read.was at c.requires.records_reads))

-- no record has a fault, and the sheet is next
found : (c : goal.In_ok-read) → let a = c.args in RecordsReads a.board.now a.h a.round.a a.round.m (Ok c.in_ok-read.read)
found c = rw c.in_ok-read.was at c.requires.records_reads

small : (c : goal.In_ok-read) → c.in_ok-read.read.number + 2 < 2 ^ 64
unfolding RecordsReads
small c = number_small c.args.board.now c.args.h c.requires.header_known.0 c.args.round.m c.args.h.k _ c.requires.header_known.3 (le_refl _) (found c).3

pub read_sheet-sheet-requires : goal.read_sheet-sheet-requires
unfolding RecordsReads
read_sheet-sheet-requires c =
    let f = found (goal.at.read_sheet-sheet-requires c).In_ok-read in
    record {
      header_known = (c.requires.header_known.0, c.requires.header_known.1, omega (arith, c.requires.header_known.2, c.requires.header_known.3), f.2);
      few = omega (arith, f.5, few_counted c.args.board.now (head_of c.args.board.now c.args.h) c.args.h.k, c.requires.header_known.0.few);
    }

-- what the sheet comes to
read : (c : goal.After-map_err) → let a = c.args in
    MatchResult c.map_err.result (λ x. Stepping a.board.now a.h a.count a.round.m a.round.a (Ok x))
    (λ e. Stepping a.board.now a.h a.count a.round.m a.round.a (Err e.refusal) × (e.record ≡ c.in_ok-read.read.number))
unfolding RecordsReads
read c =
    let f : (let a = c.args in RecordsReads a.board.now a.h a.round.a a.round.m (Ok c.in_ok-read.read)) = rw c.in_ok-read.was at c.requires.records_reads in
    let a = c.args in
    numbered a.board.now a.h a.count a.round.m a.round.a _ c.in_ok-read.read.number _
    (stepping a.board.now a.h a.count a.round.m a.round.a _ _ _ f.1 f.5 c.requires.header_known.2 (c.read_sheet-sheet.ensures.sheet _ f.4))
    c.map_err.ensures.cases (λ w e g. search rules)

pub returns-in_err-step : goal.returns-in_err-step
unfolding RecordsReads
returns-in_err-step c =
    let p = err_from_is_err_and c.from_residual-in_err-step.result c.from_residual-in_err-step.ensures.1 in
    let f = found (goal.at.returns-in_err-step c).In_ok-read in
    let o = rw c.in_err-step.was at (read (goal.at.returns-in_err-step c).After-map_err) in
    rw (p.1, p.2) (by_sheet _ _ _ _ _ f.0 _ o.0 (o.1 ∙ f.3))

pub returns-then-board-step : goal.returns-then-board-step
unfolding RecordsReads
returns-then-board-step c =
    let f = found (goal.at.returns-then-board-step c).In_ok-read in
    by_rest _ _ _ _ _ f.0 _ (rw c.in_ok-step.was at (read (goal.at.returns-then-board-step c).After-map_err)) _ c.in-Closed.is _ (λ z. omega arith) (ap (λ (x : ℕ). x + 1) f.3)

pub returns : goal.returns
unfolding RecordsReads Rounded
returns c =
    let f = found (goal.at.returns c).In_ok-read in
    let t = rw c.in_ok-step.was at (read (goal.at.returns c).After-map_err) in
    elim c.match-step.branch [
      | in-Closed+else-board-step w ↦ rw w.outcome-is (by_end _ _ _ _ _ f.0 _ t _ w.in-Closed.is (omega arith))
      | in-Open w ↦ rw w.outcome-is (by_next _ _ _ _ _ f.0 _ t _ _ w.in-Open.is (ap (λ (x : ℕ). x + 1) f.3))
    ]

pub overflow_add-result : goal.overflow_add-result
overflow_add-result c = omega (arith, small (goal.at.overflow_add-result c).In_ok-read)

pub overflow_add-outcome : goal.overflow_add-outcome
overflow_add-outcome c = omega (arith, small (goal.at.overflow_add-outcome c).In_ok-read)
