use Rattle.std.proofs.Common.{◌≡◌, ◌+◌, length, take}
use Rattle.compression.specs.Block.{words, schedule}
use Rattle.compression.proofs.expand.Given as goal

abbrev pub invariant-loop-i : goal.invariant-loop-i
invariant-loop-i l = (length l.w ≡ 64) × (take l.i l.w ≡ words l.b l.i)

abbrev pub invariant-loop-n : goal.invariant-loop-n
invariant-loop-n l = (length l.w ≡ 64) × (take (l.n + 16) l.w ≡ schedule l.b l.n)
