-- The process that goes out is one still in; the plain count's rounds only grow.
use Prim.Native.Nat.{ℕ, zero, suc, ◌+◌, ◌-◌, ◌≤◌, ◌<◌}
use native.Mathlib.Nat.{eq-or-lt_of_le, le_of_suc-le-suc, not-suc-le-zero, le_refl}
use native.Mathlib.Omega.{arith}
use mathlib.Core.Path.{◌≡◌, refl}
use mathlib.Core.Bool.{Bool, true, false, not, ◌||◌, true≢false, and-eq-true_iff}
use mathlib.Core.List.{List, [], ◌∷◌}
use mathlib.Core.Logic.{◌⊎◌, inl, inr, ⊎_elim}
use lib.Dec.{eqb}
use lib.ListN.{length, length-append}
use Rattle.rules.specs.Count.{member, still_in, Standing, behind, pick, leaves, closes, next, counts_of, count_from}
use Rattle.rules.proofs.Lists.{pigeonhole}
use borrow.Author.Tests.{eqb-false, leb-true, not-true}
use Rattle.numbers.proofs.Tests.{by_cases, or_false_left}

-- one of 1 .. i that is still in
pub record In (gone : List ℕ) (i c : ℕ) : Type 0 where
  pub low : 1 ≤ c
  pub high : c ≤ i
  pub still : member c gone ≡ false

pub in_of : (n : ℕ) (gone : List ℕ) (c : ℕ) → still_in n gone c ≡ true → In gone n c
unfolding still_in
in_of n gone c h = let w = simp and-eq-true_iff at h in record { low = leb-true 1 c w.0.0; high = leb-true c n w.0.1; still = not-true _ w.1 }

-- all of 1 .. i have gone out
abbrev AllOut : (gone : List ℕ) (i : ℕ) → Type 0
AllOut gone i = (j : ℕ) → j < i → member (suc j) gone ≡ true

-- none is picked, or one still in
module _ (gone : List ℕ) (better : ℕ → ℕ → Bool) where
  pub pick_in : (i : ℕ) → ((pick gone better i ≡ 0) × AllOut gone i) ⊎ In gone i (pick gone better i)
  unfolding pick
  pick_in zero = inl (refl, λ j l. absurd (not-suc-le-zero l))
  pick_in (suc i) = go (pick_in i)
    where
      go : ((pick gone better i ≡ 0) × AllOut gone i) ⊎ In gone i (pick gone better i) →
          ((pick gone better (suc i) ≡ 0) × AllOut gone (suc i)) ⊎ In gone (suc i) (pick gone better (suc i))
      go w =
          by_cases (member (suc i) gone)
          (λ e. elim w [
            | inl z ↦ inl (rw e z.0, λ j l. ⊎_elim (λ (q : j ≡ i). rw q e) (λ (b : j < i). z.1 j b) (eq-or-lt_of_le (le_of_suc-le-suc l)))
            | inr o ↦ inr (rw e (record { low = o.low; high = omega (arith, o.high); still = o.still }))
          ])
          (λ e. by_cases (eqb (pick gone better i) 0 || better (pick gone better i) (suc i))
          (λ t. inr (rw (e, t) (record { low = omega arith; high = le_refl (suc i); still = e })))
          (λ t. elim w [
            | inl z ↦ absurd (true≢false (rw z.0 at t))
            | inr o ↦ inr (rw (e, t) (record { low = o.low; high = omega (arith, o.high); still = o.still }))
          ]))

module _ (n : ℕ) (st : Standing) (counts : List ℕ) where
  pub leaves_in_lem : length st.gone < n → In st.gone n (leaves n st counts)
  leaves_in_lem l = elim (pick_in st.gone (λ best c. not (behind st counts best c)) n) [ inl z ↦ absurd (omega (arith, pigeonhole n st.gone z.1)) | inr o ↦ o ]

-- a round that does not close the board is not the last
pub not_last : (n m : ℕ) (st : Standing) (cs : List ℕ) (K : ℕ) → length st.sheets ≡ m → closes n st cs K ≡ false → m + 1 ≡ n - 1 → ⊥
unfolding closes
not_last n m st cs K l c e = eqb-false (length st.sheets + 1) (n - 1) (or_false_left (eqb (length st.sheets + 1) (n - 1)) _ c) (rw l e)

-- ---- the plain count: what it hands back after a standing count
module _ (n : ℕ) (rankings : List (List ℕ)) where
  abbrev here : Standing → List ℕ
  here st = counts_of n rankings st.gone

  pub rounds_over : (fuel : ℕ) (st : Standing) → length st.sheets < (count_from n rankings fuel st).rounds
  unfolding count_from
  rounds_over zero st = omega arith
  rounds_over (suc fuel) st =
      by_cases (closes n st (here st) (length rankings))
      (λ e. rw e (omega arith))
      (λ e. rw e (omega (arith, rounds_over fuel (next n st (here st)), length-append st.sheets (here st ∷ []))))
