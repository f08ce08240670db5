use Rattle.std.proofs.Common.{eq-eqb, ne_eqb}
use Rattle.rules.specs.Count.{closes}
use Rattle.count.proofs.Picks.{sheets_many}
use Rattle.count.proofs.Count.closes.Goals as goal

pub returns-then-self-n : goal.returns-then-self-n
unfolding closes
returns-then-self-n c =
    let a = c.args in
    rw (sheets_many a.n a.self c.requires.0, eq-eqb _ _ c.if-self-n.true)

pub returns-else-self-n : goal.returns-else-self-n
unfolding closes
returns-else-self-n c =
    let a = c.args in
    rw (sheets_many a.n a.self c.requires.0, ne_eqb _ _ c.if-self-n.false) c.majority.ensures
