use Rattle.std.proofs.Common.{◌≡◌}
use Rattle.rules.specs.Count.{fewer}
use Rattle.count.specs.State.{counts_by}
use Rattle.count.proofs.orders.fewer.Given as goal

abbrev pub invariant-loop-i : goal.invariant-loop-i
invariant-loop-i l = fewer (counts_by l.sheets) l.rounds l.a l.b ≡ fewer (counts_by l.sheets) l.i l.a l.b
