-- Rankings: each process stands at one place, and each place has one process; a process struck from a list of different ones.
use Prim.Native.Nat.{ℕ, zero, suc, ◌+◌, ◌≤◌, ◌<◌}
use mathlib.Core.Path.{◌≡◌, refl, sym, ap, ◌∙◌}
use mathlib.Core.Bool.{true, false, cond, true≢false, false≢true, and-eq-true_iff}
use mathlib.Core.List.{List, [], ◌∷◌}
use native.Mathlib.Nat.{zero-add, not-suc-le-zero}
use native.Mathlib.Numerals.{add-one}
use native.Mathlib.Omega.{arith}
use lib.Dec.{ltb, eqb}
use lib.ListN.{length, get_or}
use borrow.Author.Tests.{ne_eqb, eqb-true, lt-ltb, le-ltb, ltb-true, ltb-false}
use Rattle.numbers.specs.Below.{sum_below}
use Rattle.numbers.proofs.Tests.{all_at, by_cases}
use Rattle.numbers.proofs.Sums.{sum_first, sum_add, sum_zero, sum_over, all_one_over, sum_under, all_one_under, one_picked}
use Rattle.rules.specs.Count.{member, is_ranking}
use Rattle.rules.specs.Claims.{source}
use Rattle.jobs.specs.Job.{remaining, row_of}
use Rattle.rules.specs.Openings.{without}
use Rattle.rules.proofs.Lists.{eqb_sym}

-- ---- how often a number stands in a list, and how many of 1 .. n a number is
unfoldable pub times : ℕ → List ℕ → ℕ
times c [] = 0
times c (x ∷ xs) = cond (eqb x c) 1 0 + times c xs

unfoldable pub hits : (n x : ℕ) → ℕ
hits n x = sum_below n (λ j. cond (eqb x (suc j)) 1 0)

hits_at_most : (n x : ℕ) → hits n x ≤ 1
unfolding hits
hits_at_most n x = one_picked n (λ j. eqb x (suc j)) (λ i j a b e e'. omega (arith, eqb-true x (suc i) e, eqb-true x (suc j) e'))

times_sum : (n : ℕ) (r : List ℕ) → sum_below n (λ j. times (suc j) r) ≡ sum_below (length r) (λ i. hits n (get_or r i 0))
unfolding times sum_below hits
times_sum n [] = sum_zero n
times_sum n (x ∷ xs) =
    sum_add n (λ j. cond (eqb x (suc j)) 1 0) (λ j. times (suc j) xs)
    ∙ ap (λ t. sum_below n (λ j. cond (eqb x (suc j)) 1 0) + t) (times_sum n xs)
    ∙ sym (sum_first (length xs) (λ i. hits n (get_or (x ∷ xs) i 0)))

times_places : (c : ℕ) (r : List ℕ) → sum_below (length r) (λ i. cond (eqb (get_or r i 0) c) 1 0) ≡ times c r
unfolding times sum_below
times_places c [] = refl
times_places c (x ∷ xs) = sum_first (length xs) (λ i. cond (eqb (get_or (x ∷ xs) i 0) c) 1 0) ∙ ap (λ t. cond (eqb x c) 1 0 + t) (times_places c xs)

member_times : (c : ℕ) (r : List ℕ) → member c r ≡ true → 1 ≤ times c r
unfolding times member
member_times c [] h = absurd (false≢true h)
member_times c (x ∷ xs) h =
    by_cases (eqb c x)
    (λ e. rw (eqb_sym x c, e) (omega arith))
    (λ e. rw (eqb_sym x c, e) (omega (arith, member_times c xs (rw e at h))))

pub times_member : (c : ℕ) (r : List ℕ) → 1 ≤ times c r → member c r ≡ true
unfolding times member
times_member c [] h = absurd (not-suc-le-zero h)
times_member c (x ∷ xs) h =
    by_cases (eqb c x)
    (λ e. rw e)
    (λ e. rw e (times_member c xs (omega (arith, rw (eqb_sym x c, e) at h))))

module _ (n : ℕ) (r : List ℕ) (ranking : is_ranking n r ≡ true) where
  pub ranking_length : length r ≡ n
  unfolding is_ranking
  ranking_length = eqb-true (length r) n ((and-eq-true_iff (eqb (length r) n) _).0 ranking).0

  pub ranking_member : (j : ℕ) → j < n → member (suc j) r ≡ true
  unfolding is_ranking
  ranking_member = all_at n _ ((and-eq-true_iff (eqb (length r) n) _).0 ranking).1

  pub once : (j : ℕ) → j < n → times (suc j) r ≡ 1
  once =
      all_one_over n (λ j. times (suc j) r) (λ j l. member_times (suc j) r (ranking_member j l))
      (rw (times_sum n r) (omega (arith, sum_under (length r) (λ i. hits n (get_or r i 0)) (λ i l. hits_at_most n (get_or r i 0)), ranking_length)))

  pub row_one : (i : ℕ) → i < n → sum_below n (λ j. cond (eqb (get_or r i 0) (j + 1)) 1 0) ≡ 1
  unfolding hits
  row_one i l =
      let low = sum_over n (λ j. times (suc j) r) (λ j l. member_times (suc j) r (ranking_member j l)) in
      simp add-one
      (all_one_under (length r) (λ i. hits n (get_or r i 0)) (λ i l. hits_at_most n (get_or r i 0)) (omega (arith, times_sum n r, low, ranking_length)) i
      (omega (arith, ranking_length)))

  pub column_one : (j : ℕ) → j < n → sum_below n (λ i. cond (eqb (get_or r i 0) (j + 1)) 1 0) ≡ 1
  column_one j l =
      let e : sum_below n (λ i. cond (eqb (get_or r i 0) (suc j)) 1 0) ≡ times (suc j) r = rw ranking_length at (times_places (suc j) r) in
      simp add-one (e ∙ once j l)

-- ---- a process on a list, and the list without it
pub place_at : (c : ℕ) (xs : List ℕ) → member c xs ≡ true → get_or xs (row_of c xs) 0 ≡ c
unfolding row_of member
place_at c [] h = absurd (false≢true h)
place_at c (x ∷ xs) h =
    by_cases (eqb c x)
    (λ e. rw e (sym (eqb-true c x e)))
    (λ e. rw e (place_at c xs (rw e at h)))

pub place_below : (c : ℕ) (xs : List ℕ) → member c xs ≡ true → row_of c xs < length xs
unfolding row_of member
place_below c [] h = absurd (false≢true h)
place_below c (x ∷ xs) h =
    by_cases (eqb c x)
    (λ e. rw e (omega arith))
    (λ e. rw e (omega (arith, place_below c xs (rw e at h))))

without_none : (c : ℕ) (xs : List ℕ) → times c xs ≡ 0 → without c xs ≡ xs
unfolding times without
without_none c [] h = refl
without_none c (x ∷ xs) h =
    by_cases (eqb c x)
    (λ e. absurd (omega (arith, rw (eqb_sym x c, e) at h)))
    (λ e. rw e (ap (λ t. x ∷ t) (without_none c xs (omega (arith, rw (eqb_sym x c, e) at h)))))

source_suc : (l i : ℕ) → source (suc l) (suc i) ≡ suc (source l i)
source_suc l i =
    by_cases (ltb i l)
    (λ e. rw (e, lt-ltb (suc i) (suc l) (omega (arith, ltb-true i l e))))
    (λ e. rw (e, le-ltb (suc i) (suc l) (omega (arith, ltb-false i l e))) (omega arith))

pub struck_at : (c : ℕ) (xs : List ℕ) → times c xs ≡ 1 → (i : ℕ) → get_or (without c xs) i 0 ≡ get_or xs (source (row_of c xs) i) 0
unfolding times without row_of
struck_at c [] h i = absurd (omega arith)
struck_at c (x ∷ xs) h zero =
    by_cases (eqb c x)
    (λ e. rw (e, without_none c xs (omega (arith, rw (eqb_sym x c, e) at h))))
    (λ e. rw (e, lt-ltb 0 (suc (row_of c xs)) (omega arith)))
struck_at c (x ∷ xs) h (suc i) =
    by_cases (eqb c x)
    (λ e. rw (e, without_none c xs (omega (arith, rw (eqb_sym x c, e) at h)), le-ltb (suc i) 0 (omega arith), add-one))
    (λ e. rw (e, source_suc (row_of c xs) i) (struck_at c xs (omega (arith, rw (eqb_sym x c, e) at h)) i))

-- what is struck from a list is missing from its length
pub length_struck : (c : ℕ) (xs : List ℕ) → length (without c xs) + times c xs ≡ length xs
unfolding times without
length_struck c [] = refl
length_struck c (x ∷ xs) =
    by_cases (eqb c x)
    (λ e. rw (eqb_sym x c, e) (omega (arith, length_struck c xs)))
    (λ e. rw (eqb_sym x c, e) (omega (arith, length_struck c xs)))

pub times_standing : (c : ℕ) (gone r : List ℕ) → member c gone ≡ false → times c (remaining gone r) ≡ times c r
unfolding times remaining
times_standing c gone [] h = refl
times_standing c gone (x ∷ r) h =
    by_cases (member x gone)
    (λ e.
    let d : eqb x c ≡ false = ne_eqb x c (λ q. true≢false (sym e ∙ rw q h)) in
    rw (e, d, zero-add) (times_standing c gone r h))
    (λ e. rw e (ap (λ t. cond (eqb x c) 1 0 + t) (times_standing c gone r h)))
