use Prim.Native.Nat.{suc, ◌-◌}
use mathlib.Core.Path.{◌≡◌, refl}
use native.Mathlib.Omega.{arith}
use Rattle.std.proofs.Common.{rules}
use Rattle.round.specs.Walks.{RecordReads}
use Rattle.round.proofs.Walked.{walked_first, records_refused, records_read}
use Rattle.checker.proofs.read_records.Goals as goal

pub read_record-requires : goal.read_record-requires
read_record-requires c =
    let b = c.requires.1 in rw c.loop-walk.invariant.0 (
      c.requires.0,
      c.loop-walk.invariant.1,
      c.loop-walk-test.true,
      b.early,
      λ l.
          let m : c.args.round.m ≡ suc (c.args.round.m - 1) = omega arith in
          record { further = l; early = b.early; low = (b.later _ m).1; high = (b.later _ m).2 },
    )

pub returns-in_err-next : goal.returns-in_err-next
returns-in_err-next c = search (rules, records_refused)

pub past_record-walk-requires-clause-record_passes : goal.past_record-walk-requires-clause-record_passes
unfolding RecordReads
past_record-walk-requires-clause-record_passes c = c.in_ok-next.ensures

pub returns : goal.returns
returns c = records_read _ _ c.requires.0 _ _ _ c.loop-walk.invariant.1 (omega arith)

pub loop-walk-init : goal.loop-walk-init
loop-walk-init c = (refl, walked_first _ _ c.requires.0 _ _ c.requires.1 _ c.ahead-walk.ensures)
