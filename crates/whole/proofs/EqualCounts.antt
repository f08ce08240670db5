-- The one that goes out and the winner are those of 02's sentences.
use Prim.Native.Nat.{ℕ, zero, suc, ◌-◌, ◌≤◌, ◌<◌}
use mathlib.Core.Path.{◌≡◌, refl, sym, ◌∙◌}
use mathlib.Core.Bool.{Bool, true, false, not, true≢false, or-true, or-false}
use mathlib.Core.Logic.{◌⊎◌, inl, inr, ⊎_elim}
use mathlib.Core.List.{List, [], ◌∷◌, ◌++◌}
use native.Mathlib.Nat.{eq-or-lt_of_le, le_of_suc-le-suc, le_antisymm, le_refl}
use native.Mathlib.Omega.{arith}
use lib.Dec.{eqb, ltb}
use lib.ListN.{length}
use borrow.Author.Tests.{le-leb, ltb-true, ltb-false, eqb-true, eqb-false, ne_eqb, not-true, not-false}
use Rattle.numbers.proofs.Tests.{by_cases}
use Rattle.rules.specs.Count.{Standing, round_number, member, count_of, count_in, fewer, behind, still_in, pick, leaves, wins}
use Rattle.rules.proofs.Leaving.{In, in_of, pick_in, leaves_in_lem}
use Rattle.rules.proofs.Fewer.{decided_same, decided_false, fewer_agree, fewer_at, fewer_asym, fewer_not, fewer_trans, behind_is}
use Rattle.whole.specs.EqualCounts.{EqualSince, LatestDiffers, AllAgree, StillIn, GoesOut, Wins, AllDifferent, EqualCounts}

compare {ℓ} : {P : Type ℓ} (a b : ℕ) → (a < b → P) → (a ≡ b → P) → (b < a → P) → P
compare a b less same more =
    by_cases (ltb a b) (λ t. less (ltb-true a b t))
    (λ f. ⊎_elim (λ (q : b ≡ a). same (sym q)) (λ (l : b < a). more l) (eq-or-lt_of_le (ltb-false a b f)))

still_of : (n : ℕ) (st : Standing) (c : ℕ) → In st.gone n c → StillIn n st c
unfolding still_in
still_of n st c o = rw (le-leb 1 c o.low, le-leb c n o.high, o.still)

none_in : (gone : List ℕ) (i : ℕ) → ((j : ℕ) → j < i → member (suc j) gone ≡ true) → (d : ℕ) → In gone i d → ⊥
none_in gone i out d o =
    let e : suc (d - 1) ≡ d = omega (arith, o.low) in
    true≢false (sym (rw e at (out (d - 1) (omega (arith, o.low, o.high)))) ∙ o.still)

-- ---- the pick: any test by which a later one replaces the best so far
module _ (gone : List ℕ) (better : ℕ → ℕ → Bool) (up : (a b c : ℕ) → better a b ≡ true → better b c ≡ true → better a c ≡ true)
    (down : (a b c : ℕ) → better a b ≡ false → better a c ≡ true → better b c ≡ true) where
  -- c is better than all before it, and none behind it is better
  record Best (i c : ℕ) : Type 0 where
    below : (d : ℕ) → In gone i d → d < c → better d c ≡ true
    above : (d : ℕ) → In gone i d → c < d → better c d ≡ false

  fewer_in : (i d : ℕ) → In gone (suc i) d → d ≤ i → In gone i d
  fewer_in i d o l = record { low = o.low; high = l; still = o.still }

  -- one more is better than the best so far
  replaced : (i p : ℕ) → Best i p → better p (suc i) ≡ true → Best (suc i) (suc i)
  replaced i p b t =
      record {
        below = λ d o l.
            let o = fewer_in i d o (omega arith) in
            compare d p (λ s. up d p (suc i) (b.below d o s) t) (λ q. rw q t) (λ s. down p d (suc i) (b.above d o s) t);
        above = λ d o l. absurd (omega (arith, o.high));
      }

  -- or is not, or has gone out
  stays : (i p : ℕ) → p ≤ i → Best i p → (member (suc i) gone ≡ false → better p (suc i) ≡ false) → Best (suc i) p
  stays i p s b t =
      record {
        below = λ d o l. b.below d (fewer_in i d o (omega arith)) l;
        above = λ d o l. ⊎_elim (λ (q : d ≡ suc i). rw q (t (rw q at o.still))) (λ (m : d < suc i). b.above d (fewer_in i d o (omega arith)) l) (eq-or-lt_of_le o.high);
      }

  -- none was in before
  alone : (i : ℕ) → ((j : ℕ) → j < i → member (suc j) gone ≡ true) → Best (suc i) (suc i)
  alone i out =
      record {
        below = λ d o l. absurd (none_in gone i out d (fewer_in i d o (omega arith)));
        above = λ d o l. absurd (omega (arith, o.high));
      }

  small : (i : ℕ) → pick gone better i ≤ i
  small i = elim (pick_in gone better i) [ inl z ↦ omega (arith, z.0) | inr o ↦ o.high ]

  best : (i : ℕ) → Best i (pick gone better i)
  unfolding pick
  best zero = record { below = λ d o l. absurd (omega arith); above = λ d o l. absurd (omega (arith, o.low, o.high)) }
  best (suc i) =
      by_cases (member (suc i) gone)
      (λ e. rw e (stays i (pick gone better i) (small i) (best i) (λ f. absurd (true≢false (sym e ∙ f)))))
      (λ e. by_cases (better (pick gone better i) (suc i))
      (λ t. rw (e, t, or-true) (replaced i (pick gone better i) (best i) t))
      (λ t. elim (pick_in gone better i) [
        | inl z ↦ rw (e, z.0) (alone i z.1)
        | inr o ↦ rw (e, t, or-false, ne_eqb (pick gone better i) 0 (λ q. omega (arith, o.low))) (stays i (pick gone better i) (small i) (best i) (λ _. t))
      ]))

-- ---- two processes of a standing count
module _ (st : Standing) (counts : List ℕ) where
  abbrev S : List (List ℕ)
  S = st.sheets ++ (counts ∷ [])

  abbrev earlier : (a b : ℕ) → Bool
  earlier a b = fewer st.sheets (length st.sheets) a b

  swapped : (a b r : ℕ) → LatestDiffers st a b r → LatestDiffers st b a r
  swapped a b r d = record { earlier = d.earlier; differ = λ e. d.differ (sym e); since = λ m l h. sym (d.since m l h) }

  tie : (a b : ℕ) → count_of counts a ≡ count_of counts b → behind st counts a b ≡ earlier a b
  tie a b e = behind_is st counts a b ∙ decided_same (count_of counts a) (count_of counts b) (earlier a b) e

  agree : (a b : ℕ) → count_of counts a ≡ count_of counts b → AllAgree st a b → behind st counts a b ≡ false
  agree a b e f = tie a b e ∙ fewer_agree st.sheets (length st.sheets) a b f

  -- b is not behind a
  no_more : (a b : ℕ) → behind st counts b a ≡ false → count_of counts a ≤ count_of counts b
  no_more a b h = elim (decided_false (count_of counts b) (count_of counts a) (earlier b a) (sym (behind_is st counts b a) ∙ h)) [ inl l ↦ omega arith | inr s ↦ omega (arith, s.0) ]

  fewer_then : (a b r : ℕ) → behind st counts b a ≡ false → count_of counts b ≡ count_of counts a → LatestDiffers st a b r → count_in st.sheets r a < count_in st.sheets r b
  fewer_then a b r h e d =
      let w = swapped a b r d in
      let f : ltb (count_in st.sheets r b) (count_in st.sheets r a) ≡ false =
      sym (tie b a e ∙ fewer_at st.sheets (length st.sheets) b a r w.earlier w.differ w.since) ∙ h in
      ⊎_elim (λ (q : count_in st.sheets r a ≡ count_in st.sheets r b). absurd (d.differ q)) (λ (l : count_in st.sheets r a < count_in st.sheets r b). l)
      (eq-or-lt_of_le (ltb-false _ _ f))

  -- the latest of the rounds 1 .. m where two processes differ, or none
  latest : (a b m : ℕ) →
      ((r : ℕ) × (r < m) × (count_in st.sheets r a ≡ count_in st.sheets r b → ⊥) × ((i : ℕ) → r < i → i < m → count_in st.sheets i a ≡ count_in st.sheets i b))
      ⊎ ((i : ℕ) → i < m → count_in st.sheets i a ≡ count_in st.sheets i b)
  latest a b zero = inr (λ i l. absurd (omega arith))
  latest a b (suc m) =
      by_cases (eqb (count_in st.sheets m a) (count_in st.sheets m b))
      (λ e.
      let here = eqb-true (count_in st.sheets m a) (count_in st.sheets m b) e in
      elim (latest a b m) [
        | inl w ↦ inl (w.0, omega (arith, w.1), w.2, λ i h l. ⊎_elim (λ (q : i ≡ m). rw q here) (λ (s : i < m). w.3 i h s) (eq-or-lt_of_le (le_of_suc-le-suc l)))
        | inr f ↦ inr (λ i l. ⊎_elim (λ (q : i ≡ m). rw q here) (λ (s : i < m). f i s) (eq-or-lt_of_le (le_of_suc-le-suc l)))
      ])
      (λ e. inl (m, omega arith, eqb-false _ _ e, λ i h l. absurd (omega arith)))

  latest_or_none : (a b : ℕ) → ((r : ℕ) × LatestDiffers st a b r) ⊎ AllAgree st a b
  latest_or_none a b = elim (latest a b (length st.sheets)) [
    | inl w ↦ inl (w.0, record { earlier = w.1; differ = w.2; since = w.3 })
    | inr f ↦ inr f
  ]

-- ---- both ends
module _ (n : ℕ) (st : Standing) (counts : List ℕ) where
  abbrev m : ℕ
  m = round_number st

  itself : (c : ℕ) → behind st counts c c ≡ false
  itself c = agree st counts c c refl (λ i l. refl)

  not_up : (a b c : ℕ) → not (behind st counts a b) ≡ true → not (behind st counts b c) ≡ true → not (behind st counts a c) ≡ true
  not_up a b c u v = rw (fewer_not (S st counts) m a b c (not-true _ u) (not-true _ v))

  not_down : (a b c : ℕ) → not (behind st counts a b) ≡ false → not (behind st counts a c) ≡ true → not (behind st counts b c) ≡ true
  not_down a b c u v =
      by_cases (behind st counts b c)
      (λ t. absurd (true≢false (sym (fewer_trans (S st counts) m a b c (not-false _ u) t) ∙ not-true _ v)))
      (λ f. rw f)

  down : (a b c : ℕ) → behind st counts a b ≡ false → behind st counts a c ≡ true → behind st counts b c ≡ true
  down a b c u v = by_cases (behind st counts b c) (λ t. t) (λ f. absurd (true≢false (sym v ∙ fewer_not (S st counts) m a b c u f)))

  -- who is picked, by any test, is still in where some process is
  picked_in : (better : ℕ → ℕ → Bool) (d : ℕ) → StillIn n st d → In st.gone n (pick st.gone better n)
  picked_in better d h = elim (pick_in st.gone better n) [ inl z ↦ absurd (none_in st.gone n z.1 d (in_of n st.gone d h)) | inr o ↦ o ]

  goes_out : (d : ℕ) → StillIn n st d → GoesOut n st counts (leaves n st counts)
  goes_out d h =
      let c = leaves n st counts in
      let b = best st.gone (λ best c. not (behind st counts best c)) not_up not_down n in
      let last : (e : ℕ) → StillIn n st e → c < e → behind st counts c e ≡ true = λ e i l. not-false _ (b.above e (in_of n st.gone e i) l) in
      let first : (e : ℕ) → StillIn n st e → behind st counts e c ≡ false =
      λ e i. compare e c (λ l. not-true _ (b.below e (in_of n st.gone e i) l)) (λ q. rw q (itself c)) (λ l. fewer_asym (S st counts) m c e (last e i l)) in
      record {
        still_in_lem = still_of n st c (picked_in (λ best c. not (behind st counts best c)) d h);
        lowest = λ e i. no_more st counts c e (first e i);
        fewer = λ e r i q w. fewer_then st counts c e r (first e i) q w;
        number = λ e i q w. compare e c (λ l. omega arith) (λ l. omega arith) (λ l. absurd (true≢false (sym (last e i l) ∙ agree st counts c e (sym q) w)));
      }

  winner : (d : ℕ) → StillIn n st d → Wins n st counts (wins n st counts)
  winner d h =
      let c = wins n st counts in
      let b = best st.gone (λ best c. behind st counts best c) (fewer_trans (S st counts) m) down n in
      let last : (e : ℕ) → StillIn n st e → e < c → behind st counts e c ≡ true = λ e i l. b.below e (in_of n st.gone e i) l in
      let first : (e : ℕ) → StillIn n st e → behind st counts c e ≡ false =
      λ e i. compare e c (λ l. fewer_asym (S st counts) m e c (last e i l)) (λ q. rw q (itself c)) (λ l. b.above e (in_of n st.gone e i) l) in
      record {
        still_in_lem = still_of n st c (picked_in (λ best c. behind st counts best c) d h);
        highest = λ e i. no_more st counts e c (first e i);
        more = λ e r i q w. fewer_then st counts e c r (first e i) (sym q) (swapped st counts c e r w);
        number = λ e i q w.
            compare e c (λ l. absurd (true≢false (sym (last e i l) ∙ agree st counts e c q (λ j k. sym (w j k))))) (λ l. omega arith) (λ l. omega arith);
      }

  -- there is one such process only
  one_out : (a b : ℕ) → GoesOut n st counts a → GoesOut n st counts b → a ≡ b
  one_out a b f g =
      let q : count_of counts b ≡ count_of counts a = le_antisymm (g.lowest a f.still_in_lem) (f.lowest b g.still_in_lem) in
      elim (latest_or_none st counts a b) [
        | inl w ↦ absurd (omega (arith, f.fewer b w.0 g.still_in_lem q w.1, g.fewer a w.0 f.still_in_lem (sym q) (swapped st counts a b w.0 w.1)))
        | inr w ↦ le_antisymm (g.number a f.still_in_lem (sym q) (λ i l. sym (w i l))) (f.number b g.still_in_lem q w)
      ]

  one_wins : (a b : ℕ) → Wins n st counts a → Wins n st counts b → a ≡ b
  one_wins a b f g =
      let q : count_of counts b ≡ count_of counts a = le_antisymm (f.highest b g.still_in_lem) (g.highest a f.still_in_lem) in
      elim (latest_or_none st counts a b) [
        | inl w ↦ absurd (omega (arith, f.more b w.0 g.still_in_lem q w.1, g.more a w.0 f.still_in_lem (sym q) (swapped st counts a b w.0 w.1)))
        | inr w ↦ le_antisymm (f.number b g.still_in_lem q w) (g.number a f.still_in_lem (sym q) (λ i l. sym (w i l)))
      ]

  -- with all counts different none is equal to another
  alone_out : AllDifferent n st counts → (c : ℕ) → StillIn n st c → ((d : ℕ) → StillIn n st d → count_of counts c ≤ count_of counts d) → GoesOut n st counts c
  alone_out different c h low =
      record {
        still_in_lem = h;
        lowest = low;
        fewer = λ d r i q w. absurd (w.differ (rw (different d c i h q)));
        number = λ d i q w. rw (different d c i h q) (le_refl c);
      }

  alone_wins : AllDifferent n st counts → (c : ℕ) → StillIn n st c → ((d : ℕ) → StillIn n st d → count_of counts d ≤ count_of counts c) → Wins n st counts c
  alone_wins different c h high =
      record {
        still_in_lem = h;
        highest = high;
        more = λ d r i q w. absurd (w.differ (rw (different d c i h q)));
        number = λ d i q w. rw (different d c i h q) (le_refl c);
      }

  -- of those left c had the fewest, or the most
  left : (c d r : ℕ) → EqualSince st c d r → r < length st.sheets → (P : Type 0) → (count_in st.sheets r c ≡ count_in st.sheets r d → P) → (LatestDiffers st c d r → P) → P
  left c d r since l P same differ =
      by_cases (eqb (count_in st.sheets r c) (count_in st.sheets r d)) (λ e. same (eqb-true _ _ e)) (λ e. differ (record { earlier = l; differ = eqb-false _ _ e; since = since }))

pub equal_counts : EqualCounts
equal_counts =
    record {
      some_in = λ n st l. (leaves n st [], still_of n st (leaves n st []) (leaves_in_lem n st [] l));
      out_iff = λ n st counts d h c. (λ e. rw (← e) (goes_out n st counts d h), λ g. one_out n st counts (leaves n st counts) c (goes_out n st counts d h) g);
      wins_iff = λ n st counts d h c. (λ e. rw (← e) (winner n st counts d h), λ g. one_wins n st counts (wins n st counts) c (winner n st counts d h) g);
      out_narrows = λ n st counts c d r g h q since l. left n st counts c d r since l _ (λ e. omega (arith, e)) (λ w. omega (arith, g.fewer d r h q w));
      wins_narrows = λ n st counts c d r g h q since l. left n st counts c d r since l _ (λ e. omega (arith, e)) (λ w. omega (arith, g.more d r h q w));
      lowest_alone = λ n st counts f c h low. one_out n st counts (leaves n st counts) c (goes_out n st counts c h) (alone_out n st counts f c h low);
      highest_alone = λ n st counts f c h high. one_wins n st counts (wins n st counts) c (winner n st counts c h) (alone_wins n st counts f c h high);
    }
