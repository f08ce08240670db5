-- A test that all of the first of a list pass.
use Prim.Native.Nat.{ℕ, zero, suc, ◌≤◌}
use mathlib.Core.Path.{◌≡◌, refl, sym, ap, ◌∙◌}
use mathlib.Core.Bool.{Bool}
use mathlib.Core.List.{List}
use native.Mathlib.Numerals.{add-one}
use native.Mathlib.Omega.{arith}
use lib.ListN.{length, get_or, take}
use lib.Seq.{take-length}
use Rattle.std.specs.List.{list_all}
use Rattle.std.proofs.lemmas.List.Folds.{list_all_more}
use Rattle.numbers.specs.Below.{all_below}

pub all_front : (p : ℕ → Bool) (l : List ℕ) (k : ℕ) → k ≤ length l → list_all p (take k l) ≡ all_below k (λ i. p (get_or l i 0))
unfolding all_below
all_front p l zero h = refl
all_front p l (suc k) h =
    ap (λ (i : ℕ). list_all p (take i l)) (sym (add-one k)) ∙ list_all_more p l k 0 (omega arith) ∙ rw (all_front p l k (omega arith))

pub all_of : (p : ℕ → Bool) (l : List ℕ) (k : ℕ) → length l ≡ k → list_all p l ≡ all_below k (λ i. p (get_or l i 0))
all_of p l k e = ap (list_all p) (sym (ap (λ (i : ℕ). take i l) (sym e) ∙ take-length l)) ∙ all_front p l k (omega arith)
