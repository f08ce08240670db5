-- Those still in, one by one; a place found.
use Prim.Native.Nat.{ℕ, zero, suc, ◌+◌, ◌-◌, ◌≤◌, ◌<◌}
use mathlib.Core.Path.{◌≡◌, refl, sym, ap, ◌∙◌}
use mathlib.Core.Bool.{true, false, not}
use mathlib.Core.List.{List, [], ◌∷◌, ◌++◌, append-nil}
use native.Mathlib.Omega.{arith}
use borrow.Author.Tests.{eq-eqb, ne_eqb, eqb-true, eqb-false, ltb-false}
use lib.Dec.{eqb, ltb}
use lib.ListN.{length, get_or, take, replicate, length-take}
use Rattle.std.specs.List.{position, position_or_len}
use Rattle.std.specs.Option.{unwrap_or}
use Rattle.std.proofs.lemmas.List.{take_more}
use Rattle.std.proofs.lemmas.List.Sums.{prefix_len-le-length}
use Rattle.numbers.proofs.Tables.{zero_everywhere}
use Rattle.numbers.proofs.Tests.{by_cases}
use Rattle.rules.specs.Count.{member}
use Rattle.jobs.specs.Job.{remaining, row_of}
use Rattle.rules.specs.Answers.{with_zeros}

standing_append : (gone a b : List ℕ) → remaining gone (a ++ b) ≡ remaining gone a ++ remaining gone b
unfolding remaining
standing_append gone [] b = refl
standing_append gone (c ∷ a) b = by_cases (member c gone) (λ e. rw e (standing_append gone a b)) (λ e. rw e (ap (λ (l : List ℕ). c ∷ l) (standing_append gone a b)))

length_standing : (gone a : List ℕ) → length (remaining gone a) ≤ length a
unfolding remaining
length_standing gone [] = omega arith
length_standing gone (c ∷ a) = by_cases (member c gone) (λ e. rw e (omega (arith, length_standing gone a))) (λ e. rw e (omega (arith, length_standing gone a)))

one_out : (gone l : List ℕ) (c : ℕ) → member c gone ≡ true → l ++ remaining gone (c ∷ []) ≡ l
unfolding remaining
one_out gone l c e = rw (e, append-nil)

one_in : (gone l : List ℕ) (c : ℕ) → member c gone ≡ false → l ++ remaining gone (c ∷ []) ≡ l ++ (c ∷ [])
unfolding remaining
one_in gone l c e = rw e

module _ (gone xs : List ℕ) (i : ℕ) (h : i < length xs) where
  step : remaining gone (take (i + 1) xs) ≡ remaining gone (take i xs) ++ remaining gone (get_or xs i 0 ∷ [])
  step = ap (remaining gone) (take_more xs i 0 h) ∙ standing_append gone (take i xs) (get_or xs i 0 ∷ [])

  pub standing_out : member (get_or xs i 0) gone ≡ true → remaining gone (take i xs) ≡ remaining gone (take (i + 1) xs)
  standing_out e = sym (step ∙ one_out gone (remaining gone (take i xs)) (get_or xs i 0) e)

  pub standing_in : member (get_or xs i 0) gone ≡ false → remaining gone (take i xs) ++ (get_or xs i 0 ∷ []) ≡ remaining gone (take (i + 1) xs)
  standing_in e = sym (step ∙ one_in gone (remaining gone (take i xs)) (get_or xs i 0) e)

pub few : (gone xs : List ℕ) (i : ℕ) → length (remaining gone (take i xs)) ≤ i
few gone xs i =
    let a = length_standing gone (take i xs) in
    let b : length (take i xs) ≤ i = simp length-take (omega arith) in
    omega arith

pad_at : (l : List ℕ) (m i : ℕ) → ◌≡◌ {A = ℕ} (get_or (l ++ replicate m 0) i 0) (get_or l i 0)
pad_at [] m i = zero_everywhere m i
pad_at (x ∷ l) m zero = refl
pad_at (x ∷ l) m (suc i) = pad_at l m i

pub padded_at : (l : List ℕ) (i : ℕ) → get_or (with_zeros l) i 0 ≡ get_or l i 0
unfolding with_zeros
padded_at l i = pad_at l (8 - length l) i

-- the place of a number: the code's search
place_is : (a : ℕ) (l : List ℕ) → position_or_len (λ x. eqb x a) l ≡ row_of a l
unfolding row_of
place_is a [] = refl
place_is a (x ∷ l) =
    by_cases (eqb x a)
    (λ t. rw (t, eq-eqb a x (sym (eqb-true x a t))))
    (λ t. rw (t, ne_eqb a x (λ e. eqb-false x a t (sym e)), place_is a l) (omega arith))

pub row_is : (a : ℕ) (xs : List ℕ) (size : ℕ) → size ≡ length xs → unwrap_or (position (λ x. eqb x a) xs) size ≡ row_of a xs
row_is a xs size e =
    by_cases (ltb (position_or_len (λ x. eqb x a) xs) (length xs))
    (λ t. rw t (place_is a xs))
    (λ t.
    let most = prefix_len-le-length (λ x. not (eqb x a)) xs in
    let past = ltb-false (position_or_len (λ x. eqb x a) xs) (length xs) t in
    let all : size ≡ position_or_len (λ x. eqb x a) xs = omega arith in
    rw t (all ∙ place_is a xs))
