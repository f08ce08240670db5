use Prim.Native.Nat.{◌+◌, ◌*◌}
use Rattle.rules.specs.Bytes.{number4}
use Rattle.sheets.proofs.Products.{Rowed}
use Rattle.sheets.proofs.tally.Tally.with_row.Given as goal

abbrev pub invariant-loop-i : goal.invariant-loop-i
invariant-loop-i l = Rowed l.p (λ j. number4 l.board (l.at + 8 * j)) l.initial.b l.b l.i × Rowed l.p (λ j. number4 l.board (l.at + 8 * j + 4)) l.initial.y l.y l.i
