use Rattle.std.proofs.Common.{◌≡◌, ℕ, Bool, ◌-◌, ◌≤◌}
use Rattle.rules.specs.Count.{pick}
use Rattle.count.specs.State.{list_of}
use Rattle.count.proofs.Count.pick.Given as goal

abbrev pub invariant-loop-c : goal.invariant-loop-c
invariant-loop-c g l =
    (l.best ≤ l.c - 1)
    × ((test : (best c : ℕ) → Bool) → ((best c : ℕ) (b : Bool) → 1 ≤ best → best ≤ l.n → 1 ≤ c → c ≤ l.n → goal.F-post g l.better best c b → b ≡ test best c) → l.best ≡ pick (list_of l.self.gone) test (l.c - 1))
