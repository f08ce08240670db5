use Prim.Native.Nat.{◌*◌, ◌≤◌}
use lib.ListN.{length}
use Rattle.numbers.specs.Below.{concat_below}
use Rattle.sentences.specs.Lines.{line_named}
use Rattle.sentences.proofs.lines.put_lines.Given as goal

abbrev pub invariant-loop-m : goal.invariant-loop-m
invariant-loop-m g l = g.S.Sink.took l.initial.sink (concat_below l.m (line_named l.x)) l.sink × (length (concat_below l.m (line_named l.x)) ≤ 400 * l.m)
