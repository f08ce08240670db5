-- The group of q elements modulo p: each element other than 1 generates it, and a pair of elements opens in one way.
use Prim.Native.Nat.{ℕ, zero, suc, ◌*◌, ◌-◌, ◌%◌, ◌^◌, ◌≤◌, ◌<◌}
use mathlib.Core.Path.{◌≡◌, sym, ◌∙◌}
use mathlib.Core.Logic.{◌≢◌}
use native.Mathlib.Nat.{mod-lt, mul-zero, pow-suc, pos_of_ne-zero}
use native.Mathlib.Omega.{arith}
use Rattle.numbers.proofs.Congruence.{Same, same_refl, same_sym, same_trans, same_eq, same_of, rest_of, same_below, one_not_zero, mod_same, pow_same}
use Rattle.numbers.proofs.Primes.{Prime}
use Rattle.numbers.proofs.RootsOfUnity.{Root, root_pow, root_mul, root_cancel, root_over, order}
use Rattle.numbers.proofs.Polynomials.{powers}

pub record Element (p q x : ℕ) : Type 0 where
  pub low : 1 ≤ x
  pub below : x < p
  pub turns : x ^ q % p ≡ 1

module _ {p q : ℕ} where
  pub to_root : {x : ℕ} → Element p q x → Root p q x
  to_root h = record { root = same_of h.turns }

  -- distinct exponents below q give distinct powers
  pub once : {g x j k : ℕ} → Prime q → Root p q g → ¬ Same p g 1 → Same p (g ^ j) x → Same p (g ^ k) x → j < q → k < q → j ≡ k
  once {g} {x} {j} {k} q_prime r n h h' l l' = same_below l l' (order g j k q_prime r n (same_trans h (same_sym h')))

  pub not_one : {x : ℕ} → 2 ≤ p → Element p q x → x ≢ 1 → ¬ Same p x 1
  not_one l h n s = n (same_below h.below l s)

-- what is an element
pub element_of_root : (p q x : ℕ) → 2 ≤ p → 1 ≤ q → Root p q x → Element p q (x % p)
element_of_root p zero x l h r = elim h [ ]
element_of_root p (suc k) x l _ r =
    record {
      low = pos_of_ne-zero (λ z. one_not_zero l (same_trans (same_sym r.root) (zero z)));
      below = mod-lt x (omega arith);
      turns = rest_of l (same_trans (pow_same (suc k) (mod_same x)) r.root);
    }
  where
    zero : x % p ≡ 0 → Same p (x ^ suc k) 0
    zero z = same_trans (pow_same (suc k) (same_of z)) (same_eq (pow-suc 0 k ∙ mul-zero _))

-- each element is one power of g
pub generates : {p q : ℕ} → Prime p → Prime q → (g x : ℕ) → Element p q g → g ≢ 1 → Element p q x
    → (k : ℕ) × (k < q) × (g ^ k % p ≡ x) × ((j : ℕ) → j < q → g ^ j % p ≡ x → j ≡ k)
generates {p} {q} p_prime q_prime g x hg n hx =
    let m : ¬ Same p g 1 = not_one p_prime.large hg n in
    let (k, l, h) = powers p_prime q g x q_prime (to_root hg) m (to_root hx) in
    (k, l, rest_of hx.below h, λ j l' e. once q_prime (to_root hg) m (same_of e) h l' l)

-- the pair (b, y) opens to x and v
pub record Opening (p q g0 g1 b y x v : ℕ) : Type 0 where
  pub x_below : x < q
  pub v_below : v < q
  pub first : b ≡ g0 ^ x * g1 ^ v % p
  pub second : y ≡ g1 ^ x % p

module _ {p q : ℕ} (p_prime : Prime p) (q_prime : Prime q) (g0 g1 : ℕ) (h0 : Element p q g0) (h1 : Element p q g1) (n : g1 ≢ 1) where
  g1_not_one : ¬ Same p g1 1
  g1_not_one = not_one p_prime.large h1 n

  q_low : 1 ≤ q
  q_low = omega (arith, q_prime.large)

  pub opens : (b y : ℕ) → Element p q b → Element p q y → (x : ℕ) × (v : ℕ) × Opening p q g0 g1 b y x v
  opens b y hb hy =
      let (x, lx, ex) = powers p_prime q g1 y q_prime (to_root h1) g1_not_one (to_root hy) in
      let r : Root p q (g0 ^ x) = root_pow x (to_root h0) in
      let (v, lv, ev) = powers p_prime q g1 (b * (g0 ^ x) ^ (q - 1)) q_prime (to_root h1) g1_not_one (root_mul (to_root hb) (root_pow (q - 1) r)) in (
        x,
        v,
        record {
          x_below = lx;
          v_below = lv;
          first = sym (rest_of hb.below (root_over (g0 ^ x) (g1 ^ v) b q_low r ev));
          second = sym (rest_of hy.below ex);
        },
      )

  pub opens_once : {b y x v x' v' : ℕ} → Opening p q g0 g1 b y x v → Opening p q g0 g1 b y x' v' → (x ≡ x') × (v ≡ v')
  opens_once {b} {y} {x} {v} {x'} {v'} o o' = (e, once q_prime (to_root h1) g1_not_one ours (same_refl _) o.v_below o'.v_below)
    where
      e : x ≡ x'
      e = once q_prime (to_root h1) g1_not_one (same_of (sym o.second)) (same_of (sym o'.second)) o.x_below o'.x_below

      ours : Same p (g1 ^ v) (g1 ^ v')
      ours =
          root_cancel (g0 ^ x) (g1 ^ v) (g1 ^ v') q_low (root_pow x (to_root h0))
          (same_trans (same_of (sym o.first)) (rw e (same_sym (same_of (sym o'.first)))))
