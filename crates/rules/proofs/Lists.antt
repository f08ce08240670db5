-- Laws of lists of two, tables, votes and membership.
use Prim.Native.Nat.{ℕ, zero, suc, ◌+◌, ◌≤◌, ◌<◌}
use mathlib.Core.Path.{◌≡◌, refl, sym, ap, ap₂, ◌∙◌}
use mathlib.Core.Bool.{Bool, true, false, cond, ◌||◌, false≢true, or_assoc}
use mathlib.Core.List.{List, [], ◌∷◌, ◌++◌, append-nil}
use native.Mathlib.Omega.{arith}
use lib.Dec.{eqb}
use lib.ListN.{length, get_or, take, drop, length-append, get_or-append}
use lib.Seq.{get_or_at, take_at, drop_at}
use borrow.Author.Tests.{eq-eqb, ne_eqb, eqb-true, eqb-false}
use Rattle.numbers.specs.Below.{sum_below}
use Rattle.numbers.proofs.Search.{extend}
use Rattle.numbers.proofs.Tests.{by_cases}
use Rattle.rules.specs.Count.{member, table, table_where, first_in, votes_for}
use Rattle.rules.specs.Openings.{without}

pub eqb_sym : (a b : ℕ) → eqb a b ≡ eqb b a
eqb_sym a b = go (eqb a b) (eqb b a) refl refl
  where
    go : (s t : Bool) → eqb a b ≡ s → eqb b a ≡ t → eqb a b ≡ eqb b a
    go true t e f = e ∙ sym (eq-eqb b a (sym (eqb-true a b e)))
    go false true e f = absurd (eqb-false a b e (sym (eqb-true b a f)))
    go false false e f = e ∙ sym f

-- a list of two is the first and the second
pub two_of : (l : List ℕ) → length l ≡ 2 → get_or l 0 0 ∷ get_or l 1 0 ∷ [] ≡ l
two_of [] e = absurd (omega arith)
two_of (a ∷ []) e = absurd (omega arith)
two_of (a ∷ b ∷ []) e = refl
two_of (a ∷ b ∷ c ∷ l) e = absurd (omega arith)

module _ {ℓ} {A : Type ℓ} where
  -- of two lists joined, where the first has a known length
  pub split : (k : ℕ) (x x' y y' : List A) → length x ≡ k → length x' ≡ k → x ++ y ≡ x' ++ y' → (x ≡ x') × (y ≡ y')
  split k x x' y y' e e' h = (sym (take_at x y k e) ∙ ap (take k) h ∙ take_at x' y' k e', sym (drop_at x y k e) ∙ ap (drop k) h ∙ drop_at x' y' k e')

  -- ---- tables
  pub length_table : (n : ℕ) (f : ℕ → A) → length (table n f) ≡ n
  unfolding table
  length_table zero f = refl
  length_table (suc n) f = simp (length-append, length_table n f) (omega arith)

  pub length_where : (n : ℕ) (p : ℕ → Bool) (f : ℕ → A) → length (table_where n p f) ≡ sum_below n (λ i. cond (p i) 1 0)
  unfolding table_where sum_below
  length_where zero p f = refl
  length_where (suc n) p f =
      by_cases (p n)
      (λ e. rw e (omega (arith, length-append (table_where n p f) (f n ∷ []), length_where n p f)))
      (λ e. rw e (omega (arith, length-append (table_where n p f) [], length_where n p f)))

  pub table_at : (n : ℕ) (f : ℕ → A) (d : A) (i : ℕ) → i < n → get_or (table n f) i d ≡ f i
  unfolding table
  table_at zero f d i l = absurd (omega arith)
  table_at (suc n) f d i l =
      extend (λ (i : ℕ). get_or (table n f ++ (f n ∷ [])) i d ≡ f i) n
      (λ i b. get_or-append (table n f) (f n ∷ []) d i (rw length_table b) ∙ table_at n f d i b)
      (get_or_at (table n f) (f n) [] d n (length_table n f)) i l

  pub table_same : (n : ℕ) (f g : ℕ → A) → ((i : ℕ) → i < n → f i ≡ g i) → table n f ≡ table n g
  unfolding table
  table_same zero f g h = refl
  table_same (suc n) f g h = ap₂ (λ t x. t ++ (x ∷ [])) (table_same n f g (λ i l. h i (omega arith))) (h n (omega arith))

  pub where_same : (n : ℕ) (p q : ℕ → Bool) (f : ℕ → A) → ((i : ℕ) → i < n → p i ≡ q i) → table_where n p f ≡ table_where n q f
  unfolding table_where
  where_same zero p q f h = refl
  where_same (suc n) p q f h = ap₂ (λ t b. t ++ cond b (f n ∷ []) []) (where_same n p q f (λ i l. h i (omega arith))) (h n (omega arith))

-- ---- votes
votes_append : (n : ℕ) (gone : List ℕ) (rs : List (List ℕ)) (r : List ℕ) (c : ℕ) →
    votes_for n gone (rs ++ (r ∷ [])) c ≡ votes_for n gone rs c + cond (eqb (first_in n gone r) c) 1 0
unfolding votes_for
votes_append n gone [] r c = omega arith
votes_append n gone (x ∷ rs) r c = let h = votes_append n gone rs r c in omega arith

-- of the rankings that a test picks
pub votes_where : (n : ℕ) (gone : List ℕ) (K : ℕ) (p : ℕ → Bool) (r : ℕ → List ℕ) (c : ℕ) →
    votes_for n gone (table_where K p r) c ≡ sum_below K (λ k. cond (p k) (cond (eqb (first_in n gone (r k)) c) 1 0) 0)
unfolding table_where sum_below votes_for
votes_where n gone zero p r c = refl
votes_where n gone (suc K) p r c =
    by_cases (p K)
    (λ e. rw e (votes_append n gone (table_where K p r) (r K) c ∙ ap (λ (t : ℕ). t + cond (eqb (first_in n gone (r K)) c) 1 0) (votes_where n gone K p r c)))
    (λ e. rw (e, append-nil) (omega (arith, votes_where n gone K p r c)))

-- ---- membership
pub member_append : (x : ℕ) (xs ys : List ℕ) → member x (xs ++ ys) ≡ (member x xs || member x ys)
unfolding member
member_append x [] ys = refl
member_append x (y ∷ xs) ys = rw (member_append x xs ys) (sym (or_assoc (eqb x y) (member x xs) (member x ys)))

-- ---- n numbers take n places
pub length_without : (c : ℕ) (xs : List ℕ) → length (without c xs) ≤ length xs
unfolding without
length_without c [] = omega arith
length_without c (x ∷ xs) = go (eqb c x) (length_without c xs)
  where
    go : (b : Bool) → length (without c xs) ≤ length xs → length (cond b (without c xs) (x ∷ without c xs)) ≤ suc (length xs)
    go true h = omega arith
    go false h = omega arith

pub shorter : (c : ℕ) (xs : List ℕ) → member c xs ≡ true → length (without c xs) < length xs
unfolding without member
shorter c [] h = absurd (false≢true h)
shorter c (x ∷ xs) h = go (eqb c x) refl (shorter c xs)
  where
    go : (b : Bool) → eqb c x ≡ b → (member c xs ≡ true → length (without c xs) < length xs) → length (without c (x ∷ xs)) < suc (length xs)
    go true e ih = simp e (omega (arith, length_without c xs))
    go false e ih = simp e (omega (arith, ih (simp e at h)))

pub member_without : (c d : ℕ) (xs : List ℕ) → (d ≡ c → ⊥) → member d (without c xs) ≡ member d xs
unfolding without member
member_without c d [] ne = refl
member_without c d (x ∷ xs) ne = go (eqb c x) refl (member_without c d xs ne)
  where
    go : (b : Bool) → eqb c x ≡ b → member d (without c xs) ≡ member d xs → member d (without c (x ∷ xs)) ≡ member d (x ∷ xs)
    go true e ih = let apart : eqb d x ≡ false = ne_eqb d x (λ w. ne (w ∙ sym (eqb-true c x e))) in simp (e, apart) ih
    go false e ih = simp e (ap (λ t. eqb d x || t) ih)

pub pigeonhole : (n : ℕ) (xs : List ℕ) → ((i : ℕ) → i < n → member (suc i) xs ≡ true) → n ≤ length xs
pigeonhole zero xs h = omega arith
pigeonhole (suc n) xs h =
    let less = shorter (suc n) xs (h n (omega arith)) in
    let rest = pigeonhole n (without (suc n) xs) (λ i l. member_without (suc n) (suc i) xs (λ e. omega arith) ∙ h i (omega arith)) in
    omega arith
