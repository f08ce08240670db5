use Rattle.std.proofs.Common.{refl, length-set}
use Rattle.count.proofs.Picks.{kept, standing_next}
use Rattle.count.proofs.Count.next.Goals as goal

pub returns : goal.returns
returns c =
    let a = c.args in
    let k = c.requires in
    (refl, kept _ (simp length-set k.0.listed.order_long) (simp length-set k.0.sheets_long), λ n. standing_next n a.self a.sheet _ k.0 k.1 _ refl refl refl)
