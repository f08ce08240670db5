use Rattle.output.proofs.Laws.{more}
use Rattle.boards.proofs.RoundPlans.{length_header}
use Rattle.boards.proofs.rounds.write_board.Goals as goal

pub returns : goal.returns
returns c = more _ _ _ _ _ _ (length_header c.args.entries.label.now c.requires.label_len.0) c.write_header.ensures c.write_rounds.ensures
