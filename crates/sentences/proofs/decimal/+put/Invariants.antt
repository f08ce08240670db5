use Rattle.sentences.proofs.decimal.+put.Given as goal

abbrev pub decreases-put : goal.decreases-put
decreases-put g l = l.x
