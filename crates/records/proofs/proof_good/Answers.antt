use Rattle.records.proofs.proof_good.Goals as goal

pub returns : goal.returns
returns c context fed = c.proof_holds.ensures _ context fed
