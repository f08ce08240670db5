-- Two names compared by `==`, and names tested from the first on.
use Prim.Native.Nat.{ℕ, zero, suc, ◌+◌}
use mathlib.Core.Path.{◌≡◌, refl, sym, subst, ◌∙◌}
use mathlib.Core.Bool.{Bool, true, false, ◌&&◌}
use mathlib.Core.List.{List, [], ◌∷◌}
use native.Mathlib.Nat.{add-zero, zero-add}
use native.Mathlib.Omega.{arith}
use Rattle.std.specs.Bool.{then_some}
use Rattle.std.specs.Prelude.{is_some}
use Rattle.std.specs.List.{list_all, range_with_len}
use Rattle.std.specs.Str.{bytes_eq}
use Rattle.numbers.specs.Below.{all_below}
use Rattle.numbers.proofs.Tests.{all_add, all_same}
use Rattle.rules.specs.Receipts.{same}

pub same_is : (a b : List ℕ) → bytes_eq a b ≡ same a b
unfolding same
same_is [] [] = refl
same_is [] (y ∷ b) = refl
same_is (x ∷ a) [] = refl
same_is (x ∷ a) (y ∷ b) = rw (same_is a b)

all_first : (n : ℕ) (f : ℕ → Bool) → all_below (suc n) f ≡ (f 0 && all_below n (λ j. f (1 + j)))
unfolding all_below
all_first n f = let e : 1 + n ≡ suc n = omega arith in subst (λ (k : ℕ). all_below k f ≡ (f 0 && all_below n (λ j. f (1 + j)))) e (all_add 1 n f)

all_from : (a n : ℕ) (f : ℕ → Bool) → list_all f (range_with_len a n) ≡ all_below n (λ j. f (a + j))
unfolding all_below
all_from a zero f = refl
all_from a (suc n) f =
    let shift : all_below n (λ j. f (a + 1 + j)) ≡ all_below n (λ j. f (a + (1 + j))) = all_same n _ _ (λ i l. let e : a + 1 + i ≡ a + (1 + i) = omega arith in rw e) in
    let first : f (a + 0) ≡ f a = rw add-zero in
    rw (all_from (a + 1) n f, shift) (sym (all_first n (λ j. f (a + j)) ∙ rw first))

pub all_range : (n : ℕ) (f : ℕ → Bool) → list_all f (range_with_len 0 n) ≡ all_below n f
all_range n f = all_from 0 n f ∙ all_same n (λ j. f (0 + j)) f (λ i l. rw zero-add)

pub some_if : {X : Type 0} (b : Bool) (x : X) → is_some (then_some b x) ≡ b
some_if true x = refl
some_if false x = refl
