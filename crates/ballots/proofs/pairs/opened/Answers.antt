use Prim.Native.Nat.{◌+◌}
use mathlib.Core.Path.{◌≡◌, refl, sym, ◌∙◌}
use mathlib.Core.Bool.{true, false}
use native.Mathlib.Omega.{arith}
use borrow.Author.Tests.{eq-eqb, ne_eqb}
use lib.Dec.{eqb}
use lib.ListN.{get_or}
use Rattle.ballots.proofs.pairs.opened.Goals.{Else-from-process, Then-from-process}
use Rattle.ballots.proofs.pairs.opened.Goals as goal

-- the process of the row is that of the column, or it is not
here : (c : goal.Then-from-process) → let a = c.args in eqb (get_or a.list a.i 0) (a.j + 1) ≡ true
here c = eq-eqb _ _ (sym c.from.ensures ∙ c.if-from-process.true)

elsewhere : (c : goal.Else-from-process) → let a = c.args in eqb (get_or a.list a.i 0) (a.j + 1) ≡ false
elsewhere c = ne_eqb _ _ (λ z. c.if-from-process.false (c.from.ensures ∙ z))

pub returns-then-from-process : goal.returns-then-from-process
returns-then-from-process c = rw (here c) (refl, omega arith)

pub returns-else-from-process : goal.returns-else-from-process
returns-else-from-process c = rw (elsewhere c) (refl, omega arith)
