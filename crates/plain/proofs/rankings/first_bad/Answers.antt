use mathlib.Core.Path.{sym, ap}
use mathlib.Core.Bool.{not}
use native.Mathlib.Omega.{arith}
use Rattle.numbers.proofs.Search.{first_none, first_passed, first_found}
use Rattle.plain.proofs.rankings.first_bad.Goals as goal

pub returns-then-not-is_ranking : goal.returns-then-not-is_ranking
returns-then-not-is_ranking c =
    let l = c.loop-b in
    λ job en er.
    (omega arith, sym (first_found _ l.b _ (omega arith) (l.invariant job en er) (rw (en, er, ← c.is_ranking.ensures) (ap not c.if-not-is_ranking.true))))

pub loop-b-preserved : goal.loop-b-preserved
loop-b-preserved c =
    let l = c.loop-b in
    λ job en er. first_passed l.b _ (l.invariant job en er) (rw (en, er, ← c.is_ranking.ensures) (ap not c.if-not-is_ranking.false))

pub loop-b-init : goal.loop-b-init
loop-b-init c = λ job en er. first_none _
