-- A tally equation: the product of pairs opens to the sum of what they open to, so the count beside it is that sum.
use Prim.Native.Nat.{ℕ, zero, suc, ◌+◌, ◌*◌, ◌%◌, ◌^◌, ◌≤◌, ◌<◌}
use mathlib.Core.Path.{◌≡◌, sym, ◌∙◌}
use mathlib.Core.Bool.{Bool, true, cond}
use native.Mathlib.Nat.{mul-one, add-zero, pow-zero}
use native.Mathlib.Omega.{arith}
use lib.Pow.{pow-add}
use Rattle.numbers.specs.Below.{prod_below, sum_below}
use Rattle.numbers.proofs.Sums.{sum_under, few_picked}
use Rattle.numbers.proofs.Tests.{by_cases}
use Rattle.numbers.proofs.Residues.{mul_mod_left, mul_mod_right}
use Rattle.group.specs.Elements.{Parameters}
use Rattle.rules.specs.Group.{paired}
use Rattle.group.specs.Arithmetic.{pow_mod}
use Rattle.rules.proofs.Elements.{paired_is}
use Rattle.rules.proofs.Orders.{Orders, Generators, same_count}
use Rattle.rules.specs.Openings.{Opening}

product_mod : (m a a' b b' : ℕ) → a % m ≡ a' % m → b ≡ b' % m → a * b % m ≡ a' * b' % m
product_mod m a a' b b' e f = cc (mul_mod_left a b m, mul_mod_left a' b m, mul_mod_right a' b' m)

interchange : (a b c d : ℕ) → a * b * (c * d) ≡ a * c * (b * d)
interchange a b c d = omega arith

module _ (g : Parameters) where
  -- the product of two pairs
  pub both_open : (b b' y y' x x' v v' : ℕ) →
      b % g.p ≡ g.g0 ^ x * g.g1 ^ v % g.p → y % g.p ≡ g.g1 ^ x % g.p →
      b' ≡ g.g0 ^ x' * g.g1 ^ v' % g.p → y' ≡ g.g1 ^ x' % g.p →
      (b * b' % g.p ≡ g.g0 ^ (x + x') * g.g1 ^ (v + v') % g.p) × (y * y' % g.p ≡ g.g1 ^ (x + x') % g.p)
  both_open b b' y y' x x' v v' hb hy hb' hy' = (
    product_mod g.p b (g.g0 ^ x * g.g1 ^ v) b' (g.g0 ^ x' * g.g1 ^ v') hb hb'
        ∙ cc (interchange (g.g0 ^ x) (g.g1 ^ v) (g.g0 ^ x') (g.g1 ^ v'), pow-add g.g0 x x', pow-add g.g1 v v'),
    product_mod g.p y (g.g1 ^ x) y' (g.g1 ^ x') hy hy' ∙ cc (pow-add g.g1 x x'),
  )

  -- and of those pairs among K that a test picks
  pub product_opens : (K : ℕ) (p : ℕ → Bool) (b y v : ℕ → ℕ) → ((k : ℕ) → k < K → p k ≡ true → (x : ℕ) × Opening g (b k) (y k) x (v k)) →
      (x : ℕ) × (prod_below K (λ k. cond (p k) (b k) 1) % g.p ≡ g.g0 ^ x * g.g1 ^ sum_below K (λ k. cond (p k) (v k) 0) % g.p)
      × (prod_below K (λ k. cond (p k) (y k) 1) % g.p ≡ g.g1 ^ x % g.p)
  unfolding prod_below sum_below pow_mod
  product_opens zero p b y v h = (0, simp (pow-zero, mul-one), simp pow-zero)
  product_opens (suc K) p b y v h =
      let ih = product_opens K p b y v (λ k l. h k (omega arith)) in
      by_cases (p K)
      (λ e.
      let (x, o) = h K (omega arith) e in
      let w = both_open _ (b K) _ (y K) ih.0 x _ (v K) ih.1 ih.2 (o.first ∙ paired_is g x (v K)) o.second in
      rw e (ih.0 + x, w.0, w.1))
      (λ e. rw (e, mul-one (prod_below K (λ k. cond (p k) (b k) 1)), mul-one (prod_below K (λ k. cond (p k) (y k) 1)), add-zero) ih)

  pub count_is : {n K : ℕ} → Orders n K g.p g.q → Generators g.p g.q g.g0 g.g1 → (p : ℕ → Bool) (b y v : ℕ → ℕ) (s c : ℕ) →
      ((k : ℕ) → k < K → p k ≡ true → (x : ℕ) × Opening g (b k) (y k) x (v k)) → ((k : ℕ) → k < K → v k ≤ 1) → c ≤ sum_below K (λ k. cond (p k) 1 0) →
      prod_below K (λ k. cond (p k) (b k) 1) % g.p ≡ paired g s c → prod_below K (λ k. cond (p k) (y k) 1) % g.p ≡ pow_mod g.p g.g1 s →
      c ≡ sum_below K (λ k. cond (p k) (v k) 0)
  unfolding pow_mod
  count_is {K} o w p b y v s c h small l eb ey =
      let r = product_opens K p b y v h in
      let most = few_picked K p in
      let bound = sum_under K (λ k. cond (p k) (v k) 0) (λ k d. by_cases (p k) (λ e. rw e (small k d)) (λ e. rw e (omega arith))) in
      same_count o w s r.0 c _ (omega (arith, o.over_K)) (omega (arith, o.over_K)) (sym (paired_is g s c) ∙ sym eb ∙ r.1) (sym ey ∙ r.2)
