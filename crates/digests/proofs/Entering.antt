-- A ballot's number entered at the digests that are its record's.
use Prim.Native.Nat.{ℕ, ◌+◌, ◌-◌, ◌≤◌, ◌<◌}
use mathlib.Core.Path.{◌≡◌, refl, sym, ◌∙◌}
use mathlib.Core.Bool.{true, false, true≢false}
use mathlib.Core.List.{List, [], ◌∷◌, ◌++◌}
use native.Mathlib.Omega.{arith}
use borrow.Author.Tests.{leb-true, leb-false, eqb-true}
use lib.Dec.{leb, eqb}
use lib.ListN.{length, get_or, take, drop, length-append, length-take, length-drop}
use lib.Seq.{ext_get_or, get_or-take, get_or-drop}
use Rattle.std.proofs.lemmas.List.{get_or_append_left, get_or-append_right}
use Rattle.std.proofs.lemmas.Bool.Decides.{nat_tests}
use Rattle.numbers.proofs.Tests.{by_cases}
use Rattle.rules.specs.Receipts.{digest_count, digest_at, same, not_above}
use Rattle.rules.proofs.Digests.{same_true, same_refl, not_above_refl, not_above_same}
use Rattle.rules.proofs.Lists.{length_table, table_at}
use Rattle.digests.specs.Order.{number_with, entered, Filled}
use Rattle.digests.proofs.Parting.{Parted}

-- of two digests one is not above the other
not_above_total : (a b : List ℕ) → not_above a b ≡ false → not_above b a ≡ true
unfolding not_above
not_above_total [] b h = absurd (true≢false h)
not_above_total (x ∷ a) [] h = refl
not_above_total (x ∷ a) (y ∷ b) h = grind (arith, nat_tests, not_above_total a b)

-- two digests that differ
differ : (d e : List ℕ) → (d ≡ e → ⊥) → same d e ≡ false
differ d e ne = by_cases (same d e) (λ t. absurd (ne (same_true d e t))) (λ f. f)

-- a place of another digest stays
other : (d e : List ℕ) (number old : ℕ) → (d ≡ e → ⊥) → number_with (same d e) number old ≡ old
other d e number old ne = rw (differ d e ne) (by_cases (eqb old 0) (λ z. rw z (sym (eqb-true old 0 z))) (λ z. rw z))

module _ (digests d : List ℕ) (number : ℕ) {first end : ℕ} (p : Parted digests d first end) where
  lower : (i : ℕ) → i < first → d ≡ digest_at digests i → ⊥
  lower i l e = true≢false (sym (not_above_refl d) ∙ rw (← e) at (p.below i l))

  higher : (i : ℕ) → end ≤ i → i < digest_count digests → d ≡ digest_at digests i → ⊥
  higher i m b e = true≢false (sym (not_above_refl d) ∙ rw (← e) at (p.past i m b))

  hit : (i : ℕ) → first ≤ i → i < end → same d (digest_at digests i) ≡ true
  hit i m l = let e = not_above_same d (digest_at digests i) (p.from i m (omega (arith, p.few_equal))) (p.upto i l) in rw (← e) (same_refl d)

  pub ordered : first ≤ end
  ordered =
      by_cases (leb first end) (λ t. leb-true first end t)
      (λ f.
      let l : end < first = leb-false first end f in
      absurd (true≢false (sym (not_above_total (digest_at digests end) d (p.past end (omega arith) (omega (arith, p.few)))) ∙ p.below end l)))

  module _ (before part : List ℕ) (long : length before ≡ digest_count digests) (filled : Filled number (take (end - first) (drop first before)) part) where
    abbrev after : List ℕ
    after = take first before ++ (part ++ drop (end - first) (drop first before))

    front_long : length (take first before) ≡ first
    front_long = simp length-take (omega (arith, p.few))

    part_long : length part ≡ end - first
    part_long = filled.long ∙ simp (length-take, length-drop) (omega (arith, p.few_equal))

    at : (i : ℕ) → i < digest_count digests → get_or after i 0 ≡ number_with (same d (digest_at digests i)) number (get_or before i 0)
    at i b =
        by_cases (leb first i)
        (λ t.
        let m : first ≤ i = leb-true first i t in
        let back : first + (i - first) ≡ i = omega arith in
        get_or-append_right (take first before) _ first i 0 front_long m
        ∙ by_cases (leb end i)
        (λ t.
        let n : end ≤ i = leb-true end i t in
        let past : first + (end - first + (i - first - (end - first))) ≡ i = omega arith in
        get_or-append_right part _ (end - first) (i - first) 0 part_long (omega arith) ∙ get_or-drop (end - first) (drop first before) _ 0 ∙ get_or-drop first before _ 0
        ∙ rw past (sym (other d (digest_at digests i) number _ (higher i n b))))
        (λ f.
        let l : i < end = leb-false end i f in
        get_or_append_left part _ 0 (i - first) (omega (arith, part_long)) ∙ filled.at (i - first) (omega (arith, part_long, filled.long))
        ∙ rw (get_or-take (end - first) (drop first before) (i - first) 0 (omega arith), get_or-drop first before (i - first) 0, back, hit i m l)))
        (λ f.
        let l : i < first = leb-false first i f in
        get_or_append_left (take first before) _ 0 i (omega (arith, front_long)) ∙ get_or-take first before i 0 l
        ∙ sym (other d (digest_at digests i) number _ (lower i l)))

    pub all_entered : take first before ++ (part ++ drop (end - first) (drop first before)) ≡ entered digests d number before
    unfolding entered
    all_entered =
        let whole : length after ≡ digest_count digests = simp (length-append, length-drop) (omega (arith, front_long, part_long, long, p.few, p.few_equal, ordered)) in
        ext_get_or 0 after _ (whole ∙ sym (length_table _ _))
        (λ i l. let b : i < digest_count digests = omega (arith, whole) in at i b ∙ sym (table_at (digest_count digests) _ 0 i b))
