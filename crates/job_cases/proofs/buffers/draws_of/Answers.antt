use Prim.Native.Nat.{◌*◌}
use native.Mathlib.Omega.{arith}
use lib.ListN.{length-set}
use borrow.Author.Rules.{rules}
use Rattle.rules.specs.Bytes.{number4}
use Rattle.numbers.proofs.Tables.{filled_more}
use Rattle.job_cases.proofs.buffers.draws_of.Goals as goal

pub loop-i-init : goal.loop-i-init
loop-i-init c = (search rules, search rules, λ k h. omega arith)

pub loop-i-preserved : goal.loop-i-preserved
loop-i-preserved c =
    let l = c.loop-i in
    let s = c.args.bytes.now in
    (omega arith, simp length-set l.invariant.1, filled_more (λ k. number4 s (4 * k)) l.draws l.i c.number4.result (omega arith) c.number4.ensures l.invariant.2)

pub returns : goal.returns
returns c = let l = c.loop-i in (l.invariant.1, λ i h. l.invariant.2 i (omega arith))
