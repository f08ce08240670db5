use mathlib.Core.List.{[], ◌∷◌}
use Rattle.output.proofs.Laws.{front}
use Rattle.gooseoften.proofs.answers.put_pair.Goals as goal

pub returns : goal.returns
returns c = front (c.args.first ∷ c.args.second ∷ []) c.args.answer.now c.requires
