-- What a shift's claim says, from the words that the code reads and the inverses at hand.
use Prim.Native.Nat.{ℕ, suc, ◌+◌, ◌*◌, ◌-◌, ◌/◌, ◌%◌, ◌≤◌, ◌<◌}
use mathlib.Core.Path.{◌≡◌, sym, ap, ap₂, ◌∙◌}
use mathlib.Core.Bool.{cond}
use mathlib.Core.List.{List}
use native.Mathlib.Nat.{div-add-mod'}
use native.Mathlib.Omega.{arith}
use lib.Dec.{eqb, ltb}
use borrow.Author.Tests.{lt-ltb, le-ltb, ltb-true, ltb-false}
use Rattle.numbers.specs.Below.{prod_below}
use Rattle.numbers.proofs.Tests.{by_cases}
use Rattle.numbers.proofs.Products.{prod_same}
use Rattle.group.specs.Arithmetic.{mul_mod, pow_mod, over}
use Rattle.rules.specs.Bytes.{number4}
use Rattle.group.specs.Elements.{Parameters}
use Rattle.rules.specs.Proofs.{Statement}
use Rattle.rules.specs.Claims.{matrix_at, entry_claim, shift_claim, besides, source}
use Rattle.statements.proofs.PlainClaims.{said, over_inverse}

module _ (n l t : ℕ) where
  source_low : t / n < l → t ≡ source l (t / n) * n + t % n
  source_low h = rw (lt-ltb (t / n) l h) (sym (div-add-mod' t n))

  source_high : l ≤ t / n → t + n ≡ source l (t / n) * n + t % n
  source_high h = rw (le-ltb (t / n) l h) (omega (arith, div-add-mod' t n))

  pub source_below : (rows : ℕ) → t < rows * n → source l (t / n) * n + t % n < (rows + 1) * n
  source_below rows h =
      by_cases (ltb (t / n) l)
      (λ b. let e = source_low (ltb-true (t / n) l b) in omega arith)
      (λ b. let e = source_high (ltb-false (t / n) l b) in omega arith)

module _ (s : List ℕ) (g : Parameters) (n before new : ℕ) where
  pub shift_zero : (a l k : ℕ) → k ≡ 0 → entry_claim g (number4 s (before + 8 * (l * n + a))) (number4 s (before + 8 * (l * n + a) + 4)) 1 ≡ shift_claim g n (matrix_at s n before) (matrix_at s n new) a l k
  unfolding entry_claim shift_claim matrix_at
  shift_zero a l k e = rw e

  pub shift_one : (a l k b y : ℕ) → k ≡ 1 → b ≡ prod_below n (besides a (λ j. number4 s (before + 8 * (l * n) + 8 * j))) % g.p →
      y ≡ prod_below n (besides a (λ j. number4 s (before + 8 * (l * n) + 4 + 8 * j))) % g.p →
      ◌≡◌ {A = Statement} (record { left = b; right = y }) (shift_claim g n (matrix_at s n before) (matrix_at s n new) a l k)
  unfolding shift_claim matrix_at
  shift_one a l k b y e eb ey =
      rw e
      (said _ _ _ _
      (eb ∙ ap (λ (t : ℕ). t % g.p) (prod_same n (besides a (λ j. number4 s (before + 8 * (l * n) + 8 * j))) (besides a (λ j. number4 s (before + 8 * (l * n + j))))
      (λ j h. let f : before + 8 * (l * n) + 8 * j ≡ before + 8 * (l * n + j) = omega arith in ap (λ (t : ℕ). cond (eqb j a) 1 (number4 s t)) f)))
      (ey ∙ ap (λ (t : ℕ). t % g.p) (prod_same n (besides a (λ j. number4 s (before + 8 * (l * n) + 4 + 8 * j))) (besides a (λ j. number4 s (before + 8 * (l * n + j) + 4)))
      (λ j h. let f : before + 8 * (l * n) + 4 + 8 * j ≡ before + 8 * (l * n + j) + 4 = omega arith in ap (λ (t : ℕ). cond (eqb j a) 1 (number4 s t)) f))))

  pub shift_more : (a l k from b y ib iy : ℕ) → 2 ≤ k → from ≡ source l ((k - 2) / n) * n + (k - 2) % n →
      b ≡ number4 s (new + 8 * (k - 2)) → y ≡ number4 s (new + 8 * (k - 2) + 4) →
      ib ≡ pow_mod g.p (number4 s (before + 4 * (2 * from))) (g.q - 1) → iy ≡ pow_mod g.p (number4 s (before + 4 * (2 * from + 1))) (g.q - 1) →
      ◌≡◌ {A = Statement} (record { left = mul_mod g.p b ib; right = mul_mod g.p y iy }) (shift_claim g n (matrix_at s n before) (matrix_at s n new) a l k)
  unfolding shift_claim matrix_at
  shift_more a l k from b y ib iy h f eb ey eib eiy =
      let t = k - 2 in
      let m : k ≡ suc (suc (k - 2)) = omega arith in
      let d : t / n * n + t % n ≡ t = div-add-mod' t n in
      let w : (x y : ℕ) → x ≡ y → number4 s x ≡ number4 s y = λ x y e. ap (λ (z : ℕ). number4 s z) e in
      rw m
      (said _ _ _ _
      (over_inverse g.p g.q b _ ib eib ∙ ap₂ (λ (x y : ℕ). over g.p g.q x y) (eb ∙ w _ _ (ap (λ (z : ℕ). new + 8 * z) (sym d))) (w _ _ (omega arith)))
      (over_inverse g.p g.q y _ iy eiy ∙ ap₂ (λ (x y : ℕ). over g.p g.q x y) (ey ∙ w _ _ (ap (λ (z : ℕ). new + 8 * z + 4) (sym d))) (w _ _ (omega arith))))
