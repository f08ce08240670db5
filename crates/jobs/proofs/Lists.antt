-- Laws of lists with members struck, and of the votes of rankings.
use Prim.Native.Nat.{ℕ, zero, suc, ◌≤◌, ◌<◌}
use mathlib.Core.Path.{◌≡◌, refl, sym, ap, ◌∙◌}
use mathlib.Core.Bool.{Bool, true, false, not, cond, true≢false, false≢true, or-true, and-eq-true_iff}
use mathlib.Core.List.{List, [], ◌∷◌, ◌++◌}
use native.Mathlib.Nat.{eq-or-lt_of_le}
use native.Mathlib.Decide.{dec_lt, dec_le}
use native.Mathlib.Omega.{arith}
use lib.Dec.{eqb}
use lib.ListN.{length, get_or}
use borrow.Author.Tests.{le-leb, eq-eqb, ne_eqb, eqb-true}
use mathlib.Core.Logic.{⊎_elim}
use Rattle.numbers.specs.Below.{all_below, sum_below}
use Rattle.numbers.proofs.Sums.{sum_same, sum_swap, sum_zero}
use Rattle.numbers.proofs.Tests.{all_at, one_fails, by_cases}
use Rattle.rules.specs.Count.{member, table_where, is_ranking, still_in, first_in, votes_for}
use Rattle.jobs.specs.Job.{remaining}
use Rattle.rules.specs.Openings.{without}
use Rattle.rules.proofs.Lists.{eqb_sym, member_append, votes_where, shorter, member_without, pigeonhole}

-- ---- members struck
pub standing_all : (r : List ℕ) → remaining [] r ≡ r
unfolding remaining member
standing_all [] = refl
standing_all (x ∷ r) = ap (λ t. x ∷ t) (standing_all r)

-- a list of processes: numbers from 1 to n
abbrev pub Processes : ℕ → List ℕ → Type 0
Processes n r = (c : ℕ) → member c r ≡ true → (1 ≤ c) × (c ≤ n)

later : (n x : ℕ) (r : List ℕ) → Processes n (x ∷ r) → Processes n r
unfolding member
later n x r h c w = h c (simp (w, or-true))

still_in_lem : (n c : ℕ) (gone : List ℕ) → 1 ≤ c → c ≤ n → still_in n gone c ≡ not (member c gone)
unfolding still_in
still_in_lem n c gone low high = rw (le-leb 1 c low, le-leb c n high)

pub first_standing : (n : ℕ) (gone r : List ℕ) → Processes n r → get_or (remaining gone r) 0 0 ≡ first_in n gone r
unfolding remaining first_in
first_standing n gone [] p = refl
first_standing n gone (x ∷ r) p =
    let w = p x (unfold member in simp (eq-eqb x x refl)) in
    by_cases (member x gone)
    (λ e. rw (still_in_lem n x gone w.0 w.1, e) (first_standing n gone r (later n x r p)))
    (λ e. rw (still_in_lem n x gone w.0 w.1, e))

-- striking one more
pub strike : (c : ℕ) (gone r : List ℕ) → without c (remaining gone r) ≡ remaining (gone ++ (c ∷ [])) r
unfolding without remaining member
strike c gone [] = refl
strike c gone (x ∷ r) = go (member x gone) (eqb c x) (eqb_sym x c) refl refl (strike c gone r)
  where
    go : (b e : Bool) → eqb x c ≡ eqb c x → member x gone ≡ b → eqb c x ≡ e → without c (remaining gone r) ≡ remaining (gone ++ (c ∷ [])) r →
        without c (remaining gone (x ∷ r)) ≡ remaining (gone ++ (c ∷ [])) (x ∷ r)
    go true e s hb he ih = simp (member_append, hb) ih
    go false true s hb he ih = simp (member_append, hb, s, he) ih
    go false false s hb he ih = simp (member_append, hb, s, he) (ap (λ t. x ∷ t) ih)

pub member_standing : (c : ℕ) (gone r : List ℕ) → member c gone ≡ false → member c r ≡ true → 0 < length (remaining gone r)
unfolding remaining member
member_standing c gone [] out h = absurd (false≢true h)
member_standing c gone (x ∷ r) out h = go (member x gone) refl (member_standing c gone r out)
  where
    go : (b : Bool) → member x gone ≡ b → (member c r ≡ true → 0 < length (remaining gone r)) → 0 < length (remaining gone (x ∷ r))
    go true e ih = simp e (ih (differ (eqb c x) refl))
      where
        differ : (b : Bool) → eqb c x ≡ b → member c r ≡ true
        differ true w = absurd (true≢false (sym e ∙ rw (← (eqb-true c x w)) out))
        differ false w = simp w at h
    go false e ih = simp e (omega arith)

-- a ranking is not used up while fewer than n have gone
pub some_stand : (n : ℕ) (gone r : List ℕ) → is_ranking n r ≡ true → length gone < n → 0 < length (remaining gone r)
unfolding is_ranking
some_stand n gone r h l = go (all_below n (λ i. member (suc i) gone)) refl
  where
    go : (b : Bool) → all_below n (λ i. member (suc i) gone) ≡ b → 0 < length (remaining gone r)
    go true e = absurd (omega (arith, pigeonhole n gone (all_at n (λ i. member (suc i) gone) e)))
    go false e =
        let w = one_fails n (λ i. member (suc i) gone) e in
        let has = ((and-eq-true_iff (eqb (length r) n) (all_below n (λ i. member (suc i) r))).0 h).1 in
        member_standing (suc w.0) gone r w.2 (all_at n (λ i. member (suc i) r) has w.0 w.1)

-- ---- every ranking counts one, for one of 1 .. n
pub ranked_processes : (n : ℕ) (r : List ℕ) → is_ranking n r ≡ true → Processes n r
unfolding is_ranking
ranked_processes n r h c w = (
  elim (dec_lt 0 c) [ yes l ↦ l | no l ↦ absurd (outside (λ i il. omega arith)) ],
  elim (dec_le c n) [ yes l ↦ l | no l ↦ absurd (outside (λ i il. omega arith)) ],
)
  where
    outside : ((i : ℕ) → i < n → suc i ≡ c → ⊥) → ⊥
    outside apart =
        let has = (and-eq-true_iff (eqb (length r) n) (all_below n (λ i. member (suc i) r))).0 h in
        let long = eqb-true (length r) n has.0 in
        let less = shorter c r w in
        let rest = pigeonhole n (without c r) (λ i l. member_without c (suc i) r (apart i l) ∙ all_at n (λ i. member (suc i) r) has.1 i l) in
        omega arith

pub standing_member : (c : ℕ) (gone r : List ℕ) → member c (remaining gone r) ≡ true → member c r ≡ true
unfolding remaining member
standing_member c gone [] w = w
standing_member c gone (x ∷ r) w =
    by_cases (member x gone)
    (λ e. simp (standing_member c gone r (rw e at w), or-true))
    (λ e. by_cases (eqb c x) (λ q. rw q) (λ q. rw q (standing_member c gone r (rw (e, q) at w))))

first_of : (r : List ℕ) → 0 < length r → member (get_or r 0 0) r ≡ true
unfolding member
first_of [] l = absurd (omega arith)
first_of (x ∷ r) l = simp (eq-eqb x x refl)

-- of the tests whether c is 1, .., n one passes
none_is : (n c : ℕ) → n < c → sum_below n (λ i. cond (eqb c (suc i)) 1 0) ≡ 0
unfolding sum_below
none_is zero c l = refl
none_is (suc n) c l = simp (none_is n c (omega arith), ne_eqb c (suc n) (λ e. omega arith))

one_is : (n c : ℕ) → 1 ≤ c → c ≤ n → sum_below n (λ i. cond (eqb c (suc i)) 1 0) ≡ 1
unfolding sum_below
one_is zero c l u = absurd (omega arith)
one_is (suc n) c l u =
    ⊎_elim
    (λ (e : c ≡ suc n). simp (none_is n c (omega arith), eq-eqb c (suc n) e))
    (λ (b : c < suc n). simp (one_is n c l (omega arith), ne_eqb c (suc n) (λ e. omega arith)))
    (eq-or-lt_of_le u)

pub votes_sum : (n K : ℕ) (gone : List ℕ) (p : ℕ → Bool) (r : ℕ → List ℕ) → ((k : ℕ) → k < K → p k ≡ true → is_ranking n (r k) ≡ true) → length gone < n →
    sum_below n (λ i. votes_for n gone (table_where K p r) (suc i)) ≡ sum_below K (λ k. cond (p k) 1 0)
votes_sum n K gone p r full l =
    sum_same n _ _ (λ i il. votes_where n gone K p r (suc i))
    ∙ sum_swap n K (λ i k. cond (p k) (cond (eqb (first_in n gone (r k)) (suc i)) 1 0) 0)
    ∙ sum_same K _ _ (λ k b. by_cases (p k) (λ e. rw e (one k b e)) (λ e. rw e (sum_zero n)))
  where
    one : (k : ℕ) → k < K → p k ≡ true → sum_below n (λ i. cond (eqb (first_in n gone (r k)) (suc i)) 1 0) ≡ 1
    one k b e =
        let p = ranked_processes n (r k) (full k b e) in
        let here = first_of (remaining gone (r k)) (some_stand n gone (r k) (full k b e) l) in
        let w = p (first_in n gone (r k)) (rw (first_standing n gone (r k) p) at (standing_member _ gone (r k) here)) in
        one_is n (first_in n gone (r k)) w.0 w.1
