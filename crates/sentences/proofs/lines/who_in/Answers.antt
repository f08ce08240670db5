use mathlib.Core.Path.{◌∙◌}
use Rattle.sentences.proofs.Rounds.{who_wins, who_leaves}
use Rattle.sentences.proofs.lines.who_in.Goals as goal

pub returns-then-m-gone : goal.returns-then-m-gone
returns-then-m-gone c = λ n. who_wins n c.args.ended.now c.args.m c.requires.0 c.requires.1 c.if-m-gone.true

pub returns-else-m-gone : goal.returns-else-m-gone
returns-else-m-gone c = λ n. c.from.ensures ∙ who_leaves n c.args.ended.now c.args.m c.requires.0 c.requires.1 c.if-m-gone.false
