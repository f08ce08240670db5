-- Membership in the front of a list, one place at a time; a test that some element, or some number, passes.
use Prim.Native.Nat.{ℕ, zero, suc, ◌+◌, ◌≤◌, ◌<◌}
use mathlib.Core.Path.{◌≡◌, refl, sym, ap, ◌∙◌}
use mathlib.Core.Bool.{Bool, true, false, ◌||◌, or-true, or-false, or_assoc}
use mathlib.Core.List.{List, [], ◌∷◌}
use native.Mathlib.Nat.{not-suc-le-zero, le_of_suc-le-suc, add-zero, zero-add}
use native.Mathlib.Numerals.{add-one}
use native.Mathlib.Omega.{arith}
use lib.ListN.{length, get_or, take}
use lib.Seq.{take-suc, get_or-take, length-take-le}
use borrow.Author.Tests.{eq-eqb, ne_eqb, eqb-true, eqb-false}
use Rattle.std.specs.List.{list_any, range_with_len}
use lib.Dec.{eqb}
use Rattle.numbers.specs.Below.{any_below}
use Rattle.numbers.proofs.Tests.{by_cases}
use Rattle.rules.specs.Count.{member}
use Rattle.rules.proofs.Lists.{member_append}

pub member_none : (c : ℕ) (l : List ℕ) → member c (take 0 l) ≡ false
unfolding member
member_none c [] = refl
member_none c (x ∷ xs) = refl

pub member_more : (c : ℕ) (l : List ℕ) (i : ℕ) → i < length l → member c (take i l) ≡ false → (get_or l i 0 ≡ c → ⊥) → member c (take (i + 1) l) ≡ false
unfolding member
member_more c l i h m n = rw (add-one i, take-suc l i 0 h, member_append, m, ne_eqb c (get_or l i 0) (λ e. n (sym e)))

member_at : (l : List ℕ) (i : ℕ) → i < length l → member (get_or l i 0) l ≡ true
unfolding member
member_at [] i h = absurd (not-suc-le-zero h)
member_at (x ∷ xs) zero h = rw (eq-eqb x x refl)
member_at (x ∷ xs) (suc i) h = rw (member_at xs i (le_of_suc-le-suc h), or-true)

pub member_found : (c : ℕ) (l : List ℕ) (i k : ℕ) → i < k → k ≤ length l → get_or l i 0 ≡ c → member c (take k l) ≡ true
member_found c l i k h b e =
    let n : length (take k l) ≡ k = length-take-le k l b in
    rw (← e, ← get_or-take k l i 0 h) (member_at (take k l) i (omega arith))

-- the code's search for an element, and for a number below a bound
eqb_swap : (a b : ℕ) → eqb a b ≡ eqb b a
eqb_swap a b = by_cases (eqb b a) (λ t. eq-eqb a b (sym (eqb-true b a t)) ∙ sym t) (λ t. ne_eqb a b (λ e. eqb-false b a t (sym e)) ∙ sym t)

pub any_member : (c : ℕ) (l : List ℕ) → list_any (λ x. eqb x c) l ≡ member c l
unfolding member
any_member c [] = refl
any_member c (x ∷ l) = rw (any_member c l, eqb_swap x c)

any_front : (n : ℕ) (f : ℕ → Bool) → any_below (suc n) f ≡ (f 0 || any_below n (λ i. f (suc i)))
unfolding any_below
any_front zero f = sym (or-false (f 0))
any_front (suc n) f = rw (any_front n f) (or_assoc (f 0) (any_below n (λ i. f (suc i))) (f (suc n)))

any_numbers : (a n : ℕ) (f : ℕ → Bool) → list_any f (range_with_len a n) ≡ any_below n (λ i. f (a + i))
unfolding any_below
any_numbers a zero f = refl
any_numbers a (suc n) f =
    let shift : (i : ℕ) → a + 1 + i ≡ a + suc i = λ i. omega arith in
    (λ j. sym (ap f (add-zero a)) j || any_numbers (a + 1) n f j)
    ∙ (λ j. f (a + 0) || any_below n (λ i. f (shift i j)))
    ∙ sym (any_front n (λ i. f (a + i)))

pub any_number : (n : ℕ) (f : ℕ → Bool) → list_any f (range_with_len 0 n) ≡ any_below n f
any_number n f = any_numbers 0 n f ∙ (λ j. any_below n (λ i. f (zero-add i j)))

pub any_same : (n : ℕ) (f g : ℕ → Bool) → ((i : ℕ) → i < n → f i ≡ g i) → any_below n f ≡ any_below n g
unfolding any_below
any_same zero f g h = refl
any_same (suc n) f g h = rw (any_same n f g (λ i l. h i (omega arith)), h n (omega arith))
