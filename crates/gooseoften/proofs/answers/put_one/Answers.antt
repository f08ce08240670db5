use mathlib.Core.List.{[], ◌∷◌}
use Rattle.output.proofs.Laws.{front}
use Rattle.gooseoften.proofs.answers.put_one.Goals as goal

pub returns : goal.returns
returns c = front (c.args.x ∷ []) c.args.answer.now c.requires
