use Prim.Native.Nat.{◌+◌, ◌-◌}
use mathlib.Core.Path.{◌≡◌, refl}
use native.Mathlib.Omega.{arith}
use Rattle.writer.proofs.board_written.Goals as goal

pub returns : goal.returns
returns c = let g = c.args.ended.count.gone in let e : g.outs + 1 - 1 ≡ g.outs = omega arith in (rw e, refl)
