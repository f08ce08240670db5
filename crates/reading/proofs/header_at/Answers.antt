use Prim.Native.Nat.{◌-◌}
use native.Mathlib.Omega.{arith}
use lib.ListN.{length, drop, length-drop}
use lib.Seq.{take_all}
use Rattle.reading.proofs.header_at.Goals as goal

pub returns : goal.returns
returns c =
    let a = c.args in
    let rest = drop a.at a.board.now in
    rw (take_all (length a.board.now - a.at) rest (simp length-drop (omega arith))) at c.read_header.ensures
