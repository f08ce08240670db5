use Prim.Native.Nat.{◌+◌}
use native.Mathlib.Omega.{arith}
use Rattle.std.proofs.lemmas.Result.{err_from_is_err_and}
use Rattle.rules.specs.Bytes.{number2}
use Rattle.rules.specs.Records.{BA, kind_at, ballot_length}
use Rattle.std.specs.Prelude.{Ok}
use Rattle.frames.specs.Framed.{Framed}
use Rattle.frames.proofs.Framing.{ballot_framed, ballot_kind, ballot_sound}
use Rattle.frames.proofs.ballot_frame.Goals.{In_ok-numbered}
use Rattle.frames.proofs.ballot_frame.Goals as goal

-- the frame, with the length by the kind that was read
sound : (c : goal.In_ok-numbered) → let a = c.args in
    Framed a.board.now a.at (ballot_length a.n (kind_at a.board.now a.at)) BA (number2 a.board.now (a.at + 2)) a.due (Ok tt)
sound c = rw (← c.kind-kind.ensures, ← c.ballot_length.ensures.0) c.in_ok-numbered.ensures

pub returns-in_err-numbered : goal.returns-in_err-numbered
returns-in_err-numbered c =
    let p = err_from_is_err_and c.from_residual.result c.from_residual.ensures.1 in
    rw (p.1, p.2) (ballot_framed _ _ _ _ _ (rw (← c.kind-kind.ensures, ← c.ballot_length.ensures.0) c.in_err-numbered.ensures))

pub returns-then-unknown : goal.returns-then-unknown
returns-then-unknown c = ballot_kind _ _ _ _ (sound (goal.at.returns-then-unknown c).In_ok-numbered) (omega (arith, c.kind-kind.ensures))

pub returns : goal.returns
returns c = ballot_sound _ _ _ _ (sound (goal.at.returns c).In_ok-numbered) (omega (arith, c.kind-kind.ensures))
