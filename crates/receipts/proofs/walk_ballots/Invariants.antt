use Prim.Native.Nat.{◌-◌}
use Rattle.receipts.proofs.Walking.{WalkedTo}
use Rattle.receipts.proofs.walk_ballots.Given as goal

abbrev pub invariant-loop-number : goal.invariant-loop-number
invariant-loop-number l = WalkedTo l.board l.digests.lent.now l.initial.numbers l.numbers l.number-counter l.at

abbrev pub decreases-loop-number : goal.decreases-loop-number
decreases-loop-number l = l.number-end - l.number-counter
