use Rattle.std.proofs.Common.{arith, ◌∙◌}
use Rattle.sha256.proofs.Tail.{ending_is}
use Rattle.sha256.proofs.ending.Goals as goal

pub returns : goal.returns
returns c = ending_is c.args.zeros c.args.bits _ _ (omega arith) (c.copy_from_slice.ensures.after ∙ c.to_be_bytes.ensures)
