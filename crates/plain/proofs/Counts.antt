-- How many of the first of a list pass a test.
use Prim.Native.Nat.{ℕ, zero, suc, ◌+◌, ◌≤◌}
use mathlib.Core.Path.{◌≡◌, refl, sym, ap, ◌∙◌}
use mathlib.Core.Bool.{Bool, cond}
use mathlib.Core.List.{List, [], ◌∷◌}
use native.Mathlib.Numerals.{add-one}
use native.Mathlib.Omega.{arith}
use lib.ListN.{length, get_or, take}
use Rattle.std.specs.List.{filter}
use Rattle.std.proofs.lemmas.List.Filters.{length-filter_more}
use Rattle.numbers.specs.Below.{sum_below}

pub how_many : (p : ℕ → Bool) (l : List ℕ) (k : ℕ) → k ≤ length l → length (filter p (take k l)) ≡ sum_below k (λ i. cond (p (get_or l i 0)) 1 0)
unfolding sum_below
how_many p [] zero h = refl
how_many p (x ∷ l) zero h = refl
how_many p l (suc k) h =
    ap (λ (i : ℕ). length (filter p (take i l))) (sym (add-one k)) ∙ length-filter_more p l k 0 (omega arith)
    ∙ ap (λ (m : ℕ). m + cond (p (get_or l k 0)) 1 0) (how_many p l k (omega arith))
