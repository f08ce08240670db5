use native.Mathlib.Omega.{arith}
use Rattle.rules.specs.Ballot.{ballot_context}
use Rattle.statements.specs.Claims.{claim_of, Within}
use Rattle.records.proofs.ballot.Ballot.entry_good.Goals as goal

pub proof_good-requires-clause-by_index : goal.proof_good-requires-clause-by_index
unfolding Within
proof_good-requires-clause-by_index c l i hl hi = omega arith

pub returns : goal.returns
unfolding claim_of
returns c = c.proof_good.ensures (ballot_context _ _) c.prefix-prefix.ensures
