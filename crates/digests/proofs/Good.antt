-- What 16 asks of a list, as the code tests it.
use Prim.Native.Nat.{ℕ, ◌+◌, ◌-◌, ◌%◌, ◌≤◌, ◌<◌}
use mathlib.Core.Path.{◌≡◌, sym}
use mathlib.Core.Bool.{Bool, true, false}
use mathlib.Core.List.{List, []}
use native.Mathlib.Omega.{arith}
use lib.ListN.{length}
use borrow.Author.Tests.{eq-eqb, ne_eqb, le-leb, lt-leb}
use Rattle.std.specs.Prelude.{Some}
use Rattle.std.specs.List.{IsAllAdjacentAnswer}
use Rattle.std.specs.Ordering.{nat_cmp, is_some_and, is_le}
use Rattle.std.specs.Cmp.Lexicographic.{slice_partial_cmp}
use Rattle.numbers.specs.Below.{all_below}
use Rattle.numbers.proofs.Tests.{all_true, all_fails}
use Rattle.rules.specs.Receipts.{digest_count, digest_at, not_above, digests_good}
use Rattle.digests.specs.Order.{Listed}
use Rattle.digests.proofs.Comparing.{at_most}

module _ (digests : List ℕ) where
  -- digest i is not above the next
  abbrev rises : ℕ → Bool
  rises i = not_above (digest_at digests i) (digest_at digests (i + 1))

  pub bytes_left : (length digests % 32 ≡ 0 → ⊥) → digests_good digests ≡ false
  unfolding digests_good
  bytes_left ne = rw (ne_eqb (length digests % 32) 0 ne)

  module _ (e : length digests % 32 ≡ 0) where
    pub too_many : 500 < digest_count digests → digests_good digests ≡ false
    unfolding digests_good
    too_many l = rw (eq-eqb (length digests % 32) 0 e, lt-leb (digest_count digests) 500 l)

    pub by_order : digest_count digests ≤ 500 → digests_good digests ≡ all_below (digest_count digests - 1) rises
    unfolding digests_good
    by_order l = rw (eq-eqb (length digests % 32) 0 e, le-leb (digest_count digests) 500 l)

  pub sorted : (list : List (List ℕ)) → Listed digests list → (r : Bool) →
      IsAllAdjacentAnswer (λ x y b. is_some_and is_le (slice_partial_cmp (λ x y. Some (nat_cmp x y)) x y) ≡ b) list r → r ≡ all_below (digest_count digests - 1) rises
  sorted list l true h =
      sym (all_true (digest_count digests - 1) rises (λ i b.
      rw (← l.at i [] (omega arith), ← l.at (i + 1) [] (omega arith)) (sym (at_most _ _ true (sym (h i [] (omega (arith, l.long))))))))
  sorted list l false h =
      sym (all_fails (digest_count digests - 1) h.0 rises (omega (arith, h.1, l.long))
      (rw (← l.at h.0 [] (omega (arith, h.1, l.long)), ← l.at (h.0 + 1) [] (omega (arith, h.1, l.long))) (sym (at_most _ _ false (sym (h.2 []))))))
