-- The n bytes at a place as a ranking.
use Prim.Native.Nat.{ℕ, zero, suc, ◌+◌, ◌≤◌}
use mathlib.Core.Path.{◌≡◌, refl, sym, ap, ◌∙◌}
use mathlib.Core.Bool.{Bool, true, ◌&&◌}
use mathlib.Core.List.{List, [], ◌∷◌}
use native.Mathlib.Nat.{add-zero}
use native.Mathlib.Numerals.{add-one}
use native.Mathlib.Omega.{arith}
use lib.Dec.{eqb}
use lib.ListN.{length, length-take, length-drop}
use borrow.Author.Tests.{eq-eqb}
use Rattle.std.specs.List.{list_any, list_all, range_with_len}
use Rattle.numbers.specs.Below.{all_below}
use Rattle.numbers.proofs.Tests.{all_add, all_same}
use Rattle.rules.specs.Bytes.{part}
use Rattle.rules.specs.Count.{member, is_ranking}
use Rattle.rules.proofs.Lists.{eqb_sym}

-- the tests of a chain, one after another
pub any_is_member : (c : ℕ) (xs : List ℕ) → list_any (λ x. eqb x c) xs ≡ member c xs
unfolding member
any_is_member c [] = refl
any_is_member c (x ∷ xs) = rw (any_is_member c xs, eqb_sym x c)

all_is_below : (f : ℕ → Bool) (n a : ℕ) → list_all f (range_with_len a n) ≡ all_below n (λ i. f (a + i))
unfolding all_below
all_is_below f zero a = refl
all_is_below f (suc n) a =
    let g : ℕ → Bool = λ i. f (a + i) in
    let later : ℕ → Bool = λ i. f (a + (1 + i)) in
    let rest : all_below n (λ i. f (a + 1 + i)) ≡ all_below n later = all_same n _ _ (λ i l. let e : a + 1 + i ≡ a + (1 + i) = omega arith in ap (λ (x : ℕ). f x) e) in
    let here : all_below 1 g ≡ f a = ap (λ (x : ℕ). f x) (add-zero a) in
    let split : all_below (suc n) g ≡ (all_below 1 g && all_below n later) = let e : suc n ≡ 1 + n = omega arith in ap (λ (m : ℕ). all_below m g) e ∙ all_add 1 n g in
    ap (λ (b : Bool). f a && b) (all_is_below f n (a + 1) ∙ rest) ∙ ap (λ (b : Bool). b && all_below n later) (sym here) ∙ sym split

pub all_from_none : (f : ℕ → Bool) (n : ℕ) → list_all f (range_with_len 0 n) ≡ all_below n f
all_from_none f n = all_is_below f n 0 ∙ all_same n _ _ (λ i l. let e : 0 + i ≡ i = omega arith in ap (λ (x : ℕ). f x) e)

-- all n processes are members of the part
pub all_is_ranking : (s : List ℕ) (at n : ℕ) → at + n ≤ length s → list_all (λ i. member (i + 1) (part s at n)) (range_with_len 0 n) ≡ is_ranking n (part s at n)
unfolding is_ranking
all_is_ranking s at n h =
    let r = part s at n in
    let long : eqb (length r) n ≡ true = eq-eqb (length r) n (simp (length-take, length-drop) (omega arith)) in
    all_from_none (λ i. member (i + 1) r) n ∙ all_same n (λ i. member (i + 1) r) (λ i. member (suc i) r) (λ i l. rw (add-one i)) ∙ rw long
