use mathlib.Core.Path.{◌≡◌}
use mathlib.Core.Bool.{true}
use Rattle.jobs.specs.Write.{different}
use Rattle.validity.proofs.Chains.{Chained, Searched}
use Rattle.validity.proofs.repeats.all_different.Given as goal

abbrev pub invariant-loop-h : goal.invariant-loop-h
invariant-loop-h l = Searched l.draws l.from l.j l.h

abbrev pub decreases-loop-h : goal.decreases-loop-h
decreases-loop-h l = l.h

abbrev pub invariant-loop-j : goal.invariant-loop-j
invariant-loop-j l = (different l.draws l.from l.j ≡ true) × Chained l.draws l.from l.last l.prior l.j
