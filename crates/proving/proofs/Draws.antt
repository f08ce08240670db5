-- Where a branch's draws stand.
use Prim.Native.Nat.{ℕ, ◌+◌, ◌*◌, ◌-◌, ◌^◌, ◌≤◌, ◌<◌}
use mathlib.Core.Path.{◌≡◌, ◌∙◌}
use mathlib.Core.Bool.{false, cond}
use mathlib.Core.List.{List}
use native.Mathlib.Nat.{mul-le-mul_right, eq-or-lt_of_le}
use mathlib.Core.Logic.{⊎_elim}
use native.Mathlib.Numerals.{add-one}
use native.Mathlib.Omega.{arith}
use borrow.Author.Tests.{le-ltb, ltb-true, ltb-false, eq-eqb, ne_eqb, eqb-true, eqb-false}
use lib.Dec.{ltb, eqb}
use lib.ListN.{length, get_or}
use Rattle.numbers.specs.Below.{sum_below}
use Rattle.numbers.proofs.Tests.{by_cases}
use Rattle.proving.specs.declared.Plan.{Plan}
use Rattle.proving.specs.Plans.{plan_draws, PlanDraws, false_complements}

below : (l k b : ℕ) → l ≤ k → (l ≡ k → ⊥) → k < b → l + 2 ≤ b
below l k b h n m = ⊎_elim (λ (e : l ≡ k). absurd (n e)) (λ (s : l < k). omega arith) (eq-or-lt_of_le h)

module _ (q : ℕ) (plan : Plan) (draws : List ℕ) (D : PlanDraws q plan draws) (l : ℕ) (h : l < plan.branches) where
  up : (l + 1) * (1 + plan.statements) ≤ plan.branches * (1 + plan.statements)
  up = mul-le-mul_right (1 + plan.statements) (omega arith)

  pub true_fits : l ≡ plan.known → plan_draws plan l + plan.statements ≤ length draws
  true_fits e = rw (le-ltb plan.known l (omega arith)) (omega (arith, up, D.enough))

  past : (l ≡ plan.known → ⊥) → plan_draws plan l + 1 + plan.statements ≤ length draws × (plan_draws plan l + 1 < plan.from + plan.branches * (1 + plan.statements))
  past n =
      by_cases (ltb plan.known l)
      (λ e.
      let k : plan.known < l = ltb-true plan.known l e in
      rw e (omega (arith, up, D.enough), omega (arith, up, D.enough)))
      (λ e.
      let k : l ≤ plan.known = ltb-false plan.known l e in
      let u : (l + 2) * (1 + plan.statements) ≤ plan.branches * (1 + plan.statements) = mul-le-mul_right (1 + plan.statements) (below l plan.known plan.branches k n D.known) in
      rw e (omega (arith, up, u, D.enough), omega (arith, up, u, D.enough)))

  pub false_fits : (l ≡ plan.known → ⊥) → plan_draws plan l + 1 + plan.statements ≤ length draws
  false_fits n = (past n).0

  pub false_low : (l ≡ plan.known → ⊥) → get_or draws (plan_draws plan l) 0 < q
  false_low n = D.below (plan_draws plan l) (past n).1

  -- one more branch's distance to q
  pub against_true : (sum : ℕ) → sum ≡ false_complements q plan draws l → l ≡ plan.known → sum ≡ false_complements q plan draws (l + 1)
  unfolding false_complements sum_below
  against_true sum e k = e ∙ rw (add-one, eq-eqb l plan.known k) (omega arith)

  pub against_false : (sum : ℕ) → sum ≡ false_complements q plan draws l → (l ≡ plan.known → ⊥) →
      sum + (q - get_or draws (plan_draws plan l) 0) ≡ false_complements q plan draws (l + 1)
  unfolding false_complements sum_below
  against_false sum e k = rw (add-one, ne_eqb l plan.known k, e)

-- a branch as it is written at first, known or not: its draws start at a place
module _ (q : ℕ) (plan : Plan) (draws : List ℕ) (D : PlanDraws q plan draws) (l : ℕ) (h : l < plan.branches) (at : ℕ) (a : at ≡ plan_draws plan l) where
  pub draft_near : at < 2 ^ 50
  draft_near =
      let few : plan.branches * (1 + plan.statements) ≤ 8 * (1 + plan.statements) = mul-le-mul_right (1 + plan.statements) D.few in
      omega (arith, up q plan draws D l h, D.small, D.near)

  pub draft_at : eqb l plan.known ≡ false → at < length draws
  draft_at e = omega (arith, false_fits q plan draws D l h (eqb-false l plan.known e))

  pub draft_fits : (first : ℕ) → first ≡ cond (eqb l plan.known) at (at + 1) → first + plan.statements ≤ length draws
  draft_fits first f =
      rw (f, a)
      (by_cases (eqb l plan.known)
      (λ e. rw e (true_fits q plan draws D l h (eqb-true l plan.known e)))
      (λ e. rw e (false_fits q plan draws D l h (eqb-false l plan.known e))))

  pub draft_low : (c : ℕ) → c ≡ cond (eqb l plan.known) 0 (get_or draws at 0) → c < q
  draft_low c f = rw (f, a) (by_cases (eqb l plan.known) (λ e. rw e D.positive) (λ e. rw e (false_low q plan draws D l h (eqb-false l plan.known e))))
