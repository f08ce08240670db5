-- The ranges of n and K, which 3 tests; and 23: never due where all that is in range is shown and stored, for the screen due just where the tests
-- before it pass.
use Prim.Native.Nat.{ℕ, ◌≤◌}
use mathlib.Core.Path.{◌≡◌, refl}
use mathlib.Core.Bool.{Bool, true, false, cond, not, ◌&&◌, and-eq-true_iff}
use mathlib.Core.List.{List, [], ◌∷◌}
use native.Mathlib.Omega.{arith}
use lib.Dec.{leb}
use lib.ListN.{length}
use borrow.Author.Tests.{leb-true, le-leb}
use Rattle.numbers.proofs.Tests.{by_cases, and_true}
use Rattle.rules.specs.Group.{orders, generators}
use Rattle.rules.specs.Records.{has_mark, header_length}
use Rattle.rules.specs.Tests.{Test, first_fault, ◌or_else◌}
use Rattle.rules.specs.Header.{ranked, small, sizes, limits, header, counter_field, header_fault}
use Rattle.rules.specs.Check.{refused, check_model, check_board, check_small}
use Rattle.rules.specs.declared.Model.{Model}

-- the test of the ranges, and what it says of the numbers
pub sizes_bounds : (model : Model) (n K : ℕ) → sizes model n K ≡ true → (model.least ≤ n) × (n ≤ model.most) × (1 ≤ K) × (K ≤ model.ballots)
sizes_bounds model n K h =
    let w = simp and-eq-true_iff at h in
    (leb-true _ n w.0.0.0, leb-true n _ w.0.0.1, leb-true 1 K w.0.1, leb-true K _ w.1)

pub sizes_in : (model : Model) (n K : ℕ) → model.least ≤ n → n ≤ model.most → 1 ≤ K → K ≤ model.ballots → sizes model n K ≡ true
sizes_in model n K least most some few = and_true (and_true (and_true (le-leb _ n least) (le-leb n _ most)) (le-leb 1 K some)) (le-leb K _ few)

-- as many processes are shown as there may be, and as many ballots stored
pub record Unlimited (model : Model) : Type 0 where
  pub shown : model.most ≤ model.shows
  pub stored : model.ballots ≤ model.stores

pub ranked_unlimited : Unlimited ranked
ranked_unlimited = record { shown = omega arith; stored = omega arith }

pub never_past : (model : Model) → Unlimited model → (n K : ℕ) → sizes model n K ≡ true → limits model n K ≡ true
never_past model w n K h =
    let b = sizes_bounds model n K h in and_true (le-leb n _ (omega (arith, b.1, w.shown))) (le-leb K _ (omega (arith, b.3, w.stored)))

-- 1, 2 and 3 are not due, and more are there than the screen shows or stores
unfoldable pub past_limits : (s : List ℕ) → Bool
past_limits s = leb header_length (length s) && has_mark s 0 ranked.mark && sizes ranked (header s).n (header s).K && not (limits small (header s).n (header s).K)

-- 23 with a test that may fail, and with one that never does
between : (a b c d e : Bool) (rest : List Test) → (c ≡ true → e ≡ true) →
    first_fault ((a or_else 1) ∷ (b or_else 2) ∷ (c or_else 3) ∷ (d or_else 23) ∷ rest)
    ≡ cond (a && b && c && not d) 23 (first_fault ((a or_else 1) ∷ (b or_else 2) ∷ (c or_else 3) ∷ (e or_else 23) ∷ rest))
unfolding first_fault
between false b c d e rest f = refl
between true false c d e rest f = refl
between true true false d e rest f = refl
between true true true false e rest f = refl
between true true true true e rest f = rw (f refl)

module _ (hash : List ℕ → List ℕ) (s : List ℕ) where
  -- so 23 is never due there: the fault is that of the other five tests
  pub five_tests : (model : Model) → Unlimited model →
      header_fault hash model s
      ≡ first_fault
      ((leb header_length (length s) or_else 1)
      ∷ (has_mark s 0 model.mark or_else 2)
      ∷ (sizes model (header s).n (header s).K or_else 3)
      ∷ (orders (header s).n (header s).K (header s).group.p (header s).group.q or_else 4)
      ∷ (generators hash (header s).label (counter_field s) (header s).group or_else 5)
      ∷ [])
  unfolding header_fault first_fault
  five_tests model w = by_cases (sizes model (header s).n (header s).K) (λ e. rw (e, never_past model w _ _ e)) (λ e. rw e)

  -- on the screen it is due just there, and every other board has the fault that it has for the box
  pub small_fault : header_fault hash small s ≡ cond (past_limits s) 23 (header_fault hash ranked s)
  unfolding header_fault past_limits
  small_fault = between _ _ _ _ _ _ (never_past ranked ranked_unlimited (header s).n (header s).K)

  pub small_verdict : check_small hash s ≡ cond (past_limits s) (refused 23 0) (check_board hash s)
  unfolding check_model
  small_verdict = by_cases (past_limits s) (λ e. rw (small_fault, e)) (λ e. rw (small_fault, e))
