use mathlib.Core.Path.{refl}
use Rattle.count.proofs.Picks.{kept_over, result_over}
use Rattle.count.proofs.Count.close.Goals as goal

pub returns : goal.returns
returns c =
    let a = c.args in
    let k = c.requires in
    (refl, kept_over 0 a.self a.sheet 0 k.0 k.1, result_over a.n a.self a.sheet _ k.0 k.1 c.wins-winner.ensures.0)
