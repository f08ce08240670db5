-- Rising digests parted by one: those below it, those equal to it, and those above.
use Prim.Native.Nat.{ℕ, ◌≤◌, ◌<◌}
use mathlib.Core.Path.{◌≡◌, refl, sym, ◌∙◌}
use mathlib.Core.Bool.{Bool, true, false, not, true≢false}
use mathlib.Core.List.{List, []}
use native.Mathlib.Omega.{arith}
use lib.ListN.{length, get_or}
use Rattle.std.specs.List.Sorted.{IsPartitionedBy, IsPartitionPoint}
use Rattle.numbers.proofs.Tests.{by_cases}
use Rattle.rules.specs.Receipts.{digest_count, digest_at, not_above, digests_good}
use Rattle.rules.proofs.Digests.{not_above_trans, rising}
use Rattle.digests.specs.Order.{Listed}

-- those before first are below d, and none from it on; none before end is above d, and those from it on are
pub record Parted (digests d : List ℕ) (first end : ℕ) : Type 0 where
  pub few : first ≤ digest_count digests
  pub few_equal : end ≤ digest_count digests
  pub below : (i : ℕ) → i < first → not_above d (digest_at digests i) ≡ false
  pub from : (i : ℕ) → first ≤ i → i < digest_count digests → not_above d (digest_at digests i) ≡ true
  pub upto : (i : ℕ) → i < end → not_above (digest_at digests i) d ≡ true
  pub past : (i : ℕ) → end ≤ i → i < digest_count digests → not_above (digest_at digests i) d ≡ false

module _ (digests d : List ℕ) (list : List (List ℕ)) (l : Listed digests list) where
  abbrev pub is_below : List ℕ → Bool
  is_below x = not (not_above d x)

  abbrev pub is_upto : List ℕ → Bool
  is_upto x = not_above x d

  flipped : (b : Bool) → not b ≡ true → b ≡ false
  flipped true h = sym h
  flipped false h = refl

  flipped_back : (b : Bool) → not b ≡ false → b ≡ true
  flipped_back true h = refl
  flipped_back false h = sym h

  module _ (good : digests_good digests ≡ true) where
    ordered : (i j : ℕ) (e : List ℕ) → i ≤ j → j < length list → not_above (get_or list i e) (get_or list j e) ≡ true
    ordered i j e m n = rw (l.at i e (omega (arith, l.long)), l.at j e (omega (arith, l.long))) (rising digests good i j m (omega (arith, l.long)))

    pub below_parts : IsPartitionedBy is_below list
    below_parts i j e m n h =
        by_cases (not_above d (get_or list i e))
        (λ t. absurd (true≢false (sym (not_above_trans d (get_or list i e) (get_or list j e) t (ordered i j e m n)) ∙ flipped _ h)))
        (λ f. rw f)

    pub upto_parts : IsPartitionedBy is_upto list
    upto_parts i j e m n h = not_above_trans (get_or list i e) (get_or list j e) d (ordered i j e m n) h

  pub parted : (first end : ℕ) → first ≤ length list → end ≤ length list →
      IsPartitionPoint (λ x. is_below x ≡ true) (λ x. is_below x ≡ false) list first →
      IsPartitionPoint (λ x. is_upto x ≡ true) (λ x. is_upto x ≡ false) list end → Parted digests d first end
  parted first end f g b u =
      record {
        few = omega (arith, l.long);
        few_equal = omega (arith, l.long);
        below = λ i m. rw (l.at i [] (omega (arith, l.long))) at (flipped _ (b.0 i [] (omega arith) m));
        from = λ i m n. rw (l.at i [] n) at (flipped_back _ (b.1 i [] m (omega (arith, l.long))));
        upto = λ i m. rw (l.at i [] (omega (arith, l.long))) at (u.0 i [] (omega arith) m);
        past = λ i m n. rw (l.at i [] n) at (u.1 i [] m (omega (arith, l.long)));
      }
