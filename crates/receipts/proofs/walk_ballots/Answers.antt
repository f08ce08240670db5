use Prim.Native.Nat.{◌+◌}
use mathlib.Core.Path.{◌≡◌}
use native.Mathlib.Omega.{arith}
use Rattle.std.proofs.Common.{rules}
use Rattle.std.proofs.lemmas.Result.{err_from_is_err_and}
use Rattle.receipts.proofs.Mapping.{mapped_ok, mapped_err}
use Rattle.receipts.proofs.Walking.{WalkedTo, walked_start, walked_refused, walked_more, walked_all}
use Rattle.receipts.proofs.walk_ballots.Goals.{After-enter}
use Rattle.receipts.proofs.walk_ballots.Goals as goal

pub loop-number-init : goal.loop-number-init
loop-number-init c = walked_start _ _ _ c.requires.0 c.requires.1

pub next_record-requires : goal.next_record-requires
next_record-requires c = rw (c.start-reading.ensures.0, c.start-reading.ensures.1) (omega (arith, c.loop-number.invariant.fits, c.requires.0.long), c.requires.0.small)

pub returns-in_err-read : goal.returns-in_err-read
returns-in_err-read c =
    let p = err_from_is_err_and c.from_residual.result c.from_residual.ensures.1 in
    let m = mapped_err c.next_record.result _ _ c.map_err.ensures.cases _ c.in_err-read.was in
    let e : c.in_err-read.field-0.0 ≡ record { refusal = m.0; «record» = c.loop-number.number-counter } = search rules in
    rw (p.1, p.2, e) (walked_refused _ _ _ c.requires.0 c.loop-number.invariant (omega arith) m.0 (rw (m.1, c.start-reading.ensures.0, c.start-reading.ensures.1) at c.next_record.ensures))

-- one more ballot is walked
more : (c : goal.After-enter) → WalkedTo c.args.board.now c.args.digests.now.lent.now c.args.numbers.now c.enter.new.numbers (c.loop-number.number-counter + 1) c.in_ok-read.read.next
more c =
    let m = mapped_ok c.next_record.result _ _ c.map_err.ensures.cases _ c.in_ok-read.was in
    walked_more _ _ _ c.requires.0 c.loop-number.invariant (omega arith) _ (rw (m, c.start-reading.ensures.0, c.start-reading.ensures.1) at c.next_record.ensures) _ c.enter.ensures

pub loop-number-preserved : goal.loop-number-preserved
loop-number-preserved c = more (goal.at.loop-number-preserved c).After-enter

pub returns-in_ok-read : goal.returns-in_ok-read
returns-in_ok-read c = walked_all _ _ _ c.requires.0 (more (goal.at.returns-in_ok-read c).After-enter) (omega arith)

pub returns : goal.returns
returns c = walked_all _ _ _ c.requires.0 c.loop-number.invariant (omega arith)
