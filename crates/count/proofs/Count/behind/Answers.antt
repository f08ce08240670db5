use Prim.Native.Nat.{◌-◌}
use mathlib.Core.Path.{sym, ◌∙◌}
use native.Mathlib.Omega.{arith}
use lib.ListN.{get_or}
use Rattle.rules.proofs.Fewer.{decided_same, decided_differ}
use Rattle.count.proofs.Picks.{kept, behind_on}
use Rattle.count.proofs.Count.behind.Goals as goal

pub returns-then-x-y : goal.returns-then-x-y
returns-then-x-y c =
    let a = c.args in
    let k = kept a.self (omega (arith, c.well_formed)) (omega (arith, c.well_formed)) in
    let votes = a.sheet.counts in
    λ n l r. sym (behind_on n a.self a.sheet k a.a a.b (omega arith) (omega arith)
    ∙ decided_differ (get_or votes (a.a - 1) 0) (get_or votes (a.b - 1) 0) _ (λ e. omega arith))

pub returns : goal.returns
returns c =
    let a = c.args in
    let k = kept a.self (omega (arith, c.well_formed)) (omega (arith, c.well_formed)) in
    let votes = a.sheet.counts in
    λ n l r. c.fewer.ensures
    ∙ sym (behind_on n a.self a.sheet k a.a a.b (omega arith) (omega arith)
    ∙ decided_same (get_or votes (a.a - 1) 0) (get_or votes (a.b - 1) 0) _ (omega arith))
