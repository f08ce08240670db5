-- The first fault of a list of tests, said by places in the list.
use Prim.Native.Nat.{ℕ, zero, suc, ◌≤◌, ◌<◌}
use mathlib.Core.Path.{◌≡◌, refl}
use mathlib.Core.Logic.{◌↔◌}
use mathlib.Core.Bool.{true, false}
use mathlib.Core.List.{List, [], ◌∷◌}
use mathlib.Core.Option.{some}
use native.Mathlib.Omega.{arith}
use lib.ListN.{get_elem?}
use Rattle.numbers.proofs.Tests.{by_cases}
use Rattle.rules.specs.Tests.{Test, first_fault}
use Rattle.rules.proofs.Faults.{none_some}
use Rattle.whole.specs.SecondDemand.{FirstFails}

-- the first fault is the refusal of the first test that fails
fails_first : (ts : List Test) (number : ℕ) → 1 ≤ number → first_fault ts ≡ number → FirstFails ts number
unfolding first_fault
fails_first [] number l e = absurd (omega arith)
fails_first (t ∷ ts) number l e =
    by_cases t.holds
    (λ b. later b (fails_first ts number l (rw b at e)))
    (λ b. record { index = 0; test = t; stands = refl; fails = b; numbered = rw b at e; earlier = λ i u c. absurd (omega arith) })
  where
    later : t.holds ≡ true → FirstFails ts number → FirstFails (t ∷ ts) number
    later b w = record { index = suc w.index; test = w.test; stands = w.stands; fails = w.fails; numbered = w.numbered; earlier = held }
      where
        held : (i : ℕ) (u : Test) → i < suc w.index → get_elem? (t ∷ ts) i ≡ some u → u.holds ≡ true
        held zero u c e = let same : t ≡ u = cc in rw (← same) b
        held (suc i) u c e = w.earlier i u (omega arith) e

first_is : (ts : List Test) (number i : ℕ) (t : Test) → get_elem? ts i ≡ some t → t.holds ≡ false → t.refusal ≡ number →
    ((j : ℕ) (u : Test) → j < i → get_elem? ts j ≡ some u → u.holds ≡ true) → first_fault ts ≡ number
unfolding first_fault
first_is [] number i t e fails numbered held = absurd (none_some e)
first_is (u ∷ ts) number zero t e fails numbered held = let same : u ≡ t = cc in rw same (rw fails numbered)
first_is (u ∷ ts) number (suc i) t e fails numbered held =
    rw (held 0 u (omega arith) refl) (first_is ts number i t e fails numbered (λ j v l. held (suc j) v (omega arith)))

pub first_fails : (ts : List Test) (number : ℕ) → 1 ≤ number → (first_fault ts ≡ number) ↔ FirstFails ts number
first_fails ts number l = (fails_first ts number l, λ w. first_is ts number w.index w.test w.stands w.fails w.numbered w.earlier)
