-- The order of processes by their counts in several rounds, the latest first.
use Prim.Native.Nat.{ℕ, zero, suc, ◌≤◌, ◌<◌}
use native.Mathlib.Nat.{eq-or-lt_of_le, le_of_suc-le-suc, le_refl}
use native.Mathlib.Numerals.{add-one}
use native.Mathlib.Omega.{arith}
use mathlib.Core.Path.{◌≡◌, refl, sym, ◌∙◌}
use mathlib.Core.Bool.{Bool, true, false, cond, true≢false}
use mathlib.Core.List.{List, [], ◌∷◌, ◌++◌}
use mathlib.Core.Logic.{◌⊎◌, inl, inr, ⊎_elim}
use lib.Dec.{eqb, ltb}
use lib.ListN.{length, get_or-append}
use lib.Seq.{get_or-append_seam}
use borrow.Author.Tests.{eqb-true, eqb-false, ltb-true, ltb-false, le-ltb, eq-eqb, ne_eqb}
use Rattle.rules.specs.Count.{Standing, count_of, count_in, fewer, behind}
use Rattle.numbers.proofs.Tests.{by_cases}

-- ---- one round: it decides where the counts differ, and the rounds before it where they are equal
module _ (x y : ℕ) (rest : Bool) where
  abbrev pub decided : Bool
  decided = cond (eqb x y) rest (ltb x y)

  pub decided_same : x ≡ y → decided ≡ rest
  decided_same e = rw (eq-eqb x y e)

  pub decided_differ : (x ≡ y → ⊥) → decided ≡ ltb x y
  decided_differ ne = rw (ne_eqb x y ne)

  pub decided_more : y < x → decided ≡ false
  decided_more l = decided_differ (λ e. omega arith) ∙ le-ltb x y (omega arith)

  pub decided_true : decided ≡ true → (x < y) ⊎ ((x ≡ y) × (rest ≡ true))
  decided_true h = by_cases (eqb x y) (λ e. inr (eqb-true x y e, rw e at h)) (λ e. inl (ltb-true x y (rw e at h)))

  pub decided_false : decided ≡ false → (y < x) ⊎ ((x ≡ y) × (rest ≡ false))
  decided_false h =
      by_cases (eqb x y) (λ e. inr (eqb-true x y e, rw e at h))
      (λ e.
      ⊎_elim (λ (q : y ≡ x). absurd (eqb-false x y e (sym q))) (λ (l : y < x). inl l) (eq-or-lt_of_le (ltb-false x y (rw e at h))))

-- ---- several rounds
module _ (sheets : List (List ℕ)) where
  pub fewer_agree : (m a b : ℕ) → ((i : ℕ) → i < m → count_in sheets i a ≡ count_in sheets i b) → fewer sheets m a b ≡ false
  unfolding fewer
  fewer_agree zero a b h = refl
  fewer_agree (suc m) a b h = decided_same _ _ _ (h m (omega arith)) ∙ fewer_agree m a b (λ i l. h i (omega arith))

  -- the latest round where they differ decides
  pub fewer_at : (m a b r : ℕ) → r < m → (count_in sheets r a ≡ count_in sheets r b → ⊥) →
      ((i : ℕ) → r < i → i < m → count_in sheets i a ≡ count_in sheets i b) → fewer sheets m a b ≡ ltb (count_in sheets r a) (count_in sheets r b)
  unfolding fewer
  fewer_at zero a b r l d h = absurd (omega arith)
  fewer_at (suc m) a b r l d h =
      ⊎_elim (λ (q : r ≡ m). rw (← q, ne_eqb _ _ d))
      (λ (s : r < m). decided_same _ _ _ (h m s (omega arith)) ∙ fewer_at m a b r s d (λ i x y. h i x (omega arith))) (eq-or-lt_of_le (le_of_suc-le-suc l))

  -- who has fewer than another has not more
  pub fewer_asym : (m a b : ℕ) → fewer sheets m a b ≡ true → fewer sheets m b a ≡ false
  unfolding fewer
  fewer_asym zero a b h = refl
  fewer_asym (suc m) a b h = elim (decided_true (count_in sheets m a) (count_in sheets m b) (fewer sheets m a b) h) [
    | inl l ↦ decided_more _ _ _ l
    | inr s ↦ decided_same _ _ _ (sym s.0) ∙ fewer_asym m a b s.1
  ]

  -- and who has not fewer than one that has not fewer than a third has not fewer than the third
  pub fewer_not : (m a b c : ℕ) → fewer sheets m a b ≡ false → fewer sheets m b c ≡ false → fewer sheets m a c ≡ false
  unfolding fewer
  fewer_not zero a b c u v = refl
  fewer_not (suc m) a b c u v =
      go (fewer_not m a b c) (decided_false (count_in sheets m a) (count_in sheets m b) (fewer sheets m a b) u)
      (decided_false (count_in sheets m b) (count_in sheets m c) (fewer sheets m b c) v)
    where
      Not : (a b : ℕ) → Type 0
      Not a b = (count_in sheets m b < count_in sheets m a) ⊎ ((count_in sheets m a ≡ count_in sheets m b) × (fewer sheets m a b ≡ false))

      more : count_in sheets m c < count_in sheets m a → fewer sheets (suc m) a c ≡ false
      more = decided_more (count_in sheets m a) (count_in sheets m c) (fewer sheets m a c)

      go : (fewer sheets m a b ≡ false → fewer sheets m b c ≡ false → fewer sheets m a c ≡ false) → Not a b → Not b c → fewer sheets (suc m) a c ≡ false
      go ih (inl l) (inl k) = more (omega arith)
      go ih (inl l) (inr s) = more (omega (arith, s.0))
      go ih (inr r) (inl k) = more (omega (arith, r.0))
      go ih (inr r) (inr s) = decided_same _ _ _ (r.0 ∙ s.0) ∙ ih r.1 s.1

  pub fewer_trans : (m a b c : ℕ) → fewer sheets m a b ≡ true → fewer sheets m b c ≡ true → fewer sheets m a c ≡ true
  fewer_trans m a b c u v =
      by_cases (fewer sheets m a c) (λ t. t) (λ e. absurd (true≢false (sym u ∙ fewer_not m a c b e (fewer_asym m b c v))))

  -- sheets that stand behind those of the rounds compared do not matter
  pub fewer_append : (more : List (List ℕ)) (m a b : ℕ) → m ≤ length sheets → fewer (sheets ++ more) m a b ≡ fewer sheets m a b
  unfolding fewer
  fewer_append more zero a b l = refl
  fewer_append more (suc m) a b l = rw (get_or-append sheets more [] m l, fewer_append more m a b (omega arith))

-- this round's counts decide, or else the earlier rounds'
pub behind_is : (st : Standing) (counts : List ℕ) (a b : ℕ) →
    behind st counts a b ≡ decided (count_of counts a) (count_of counts b) (fewer st.sheets (length st.sheets) a b)
unfolding fewer
behind_is st counts a b = rw (add-one (length st.sheets), get_or-append_seam st.sheets counts [] [], fewer_append st.sheets (counts ∷ []) (length st.sheets) a b (le_refl _))
