use Prim.Native.Nat.{◌≤◌}
use lib.ListN.{take}
use Rattle.rules.specs.Notice.{name_of}
use Rattle.count.specs.State.{list_of}
use Rattle.sentences.proofs.Listing.{Listing}
use Rattle.sentences.proofs.counts.put_counts.Given as goal

abbrev pub invariant-loop-i : goal.invariant-loop-i
invariant-loop-i g l =
    (l.i ≤ l.names.count)
    × Listing (name_of l.names.lent.now) (list_of l.gone) (take l.names.count l.sheet.counts) g.met.S.Sink.laws l.initial.sink l.i l.ahead l.sink
