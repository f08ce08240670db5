-- Numbers in decimal: one digit, and one more.
use Prim.Native.Nat.{ℕ, zero, suc, ◌+◌, ◌*◌, ◌/◌, ◌%◌, ◌<◌}
use mathlib.Core.Path.{◌≡◌, subst, ◌∙◌}
use mathlib.Core.List.{[], ◌∷◌, ◌++◌}
use native.Mathlib.Nat.{mul-add-div_right, mul-add-mod_self_right, mod-eq_of_lt, mod-lt, div-eq_of_lt, div-add-mod', div-lt_self, add-zero}
use native.Mathlib.Omega.{arith}
use lib.Dec.{ltb}
use borrow.Author.Tests.{ltb-true, ltb-false, lt-ltb, le-ltb}
use Rattle.numbers.proofs.Tests.{by_cases}
use Rattle.rules.specs.Sentences.{decimal_by, decimal}

same_fuel : (f g x : ℕ) → x < f → x < g → decimal_by f x ≡ decimal_by g x
unfolding decimal_by
same_fuel zero g x a b = absurd (omega arith)
same_fuel (suc f) zero x a b = absurd (omega arith)
same_fuel (suc f) (suc g) x a b =
    by_cases (ltb x 10) (λ t. rw t)
    (λ t.
    let less : x / 10 < x = div-lt_self (omega (arith, ltb-false x 10 t)) (omega arith) in
    rw (t, same_fuel f g (x / 10) (omega arith) (omega arith)))

pub one_digit : (x : ℕ) → x < 10 → decimal x ≡ (48 + x) ∷ []
unfolding decimal decimal_by
one_digit x l = rw (lt-ltb x 10 l)

pub one_more : (a d : ℕ) → 0 < a → d < 10 → decimal (a * 10 + d) ≡ decimal a ++ ((48 + d) ∷ [])
unfolding decimal decimal_by
one_more a d l h =
    let front : (a * 10 + d) / 10 ≡ a = mul-add-div_right (omega arith) a d ∙ rw (div-eq_of_lt h) (add-zero a) in
    let back : (a * 10 + d) % 10 ≡ d = mul-add-mod_self_right a 10 d ∙ mod-eq_of_lt h in
    rw (le-ltb (a * 10 + d) 10 (omega arith), front, back, same_fuel (a * 10 + d) (suc a) a (omega arith) (omega arith))

-- what holds of one digit, and of one more, holds of every number
module _ (P : ℕ → Type 0) (few : (x : ℕ) → x < 10 → P x) (more : (a d : ℕ) → 0 < a → d < 10 → P a → P (a * 10 + d)) where
  by_fuel : (fuel x : ℕ) → x < fuel → P x
  by_fuel zero x l = absurd (omega arith)
  by_fuel (suc fuel) x l =
      by_cases (ltb x 10) (λ t. few x (ltb-true x 10 t))
      (λ t.
      let low = ltb-false x 10 t in
      let whole = div-add-mod' x 10 in
      let rest : x % 10 < 10 = mod-lt x (omega arith) in
      let some : 0 < x / 10 = omega arith in
      let less : x / 10 < x = div-lt_self (omega arith) (omega arith) in
      subst P whole (more (x / 10) (x % 10) some rest (by_fuel fuel (x / 10) (omega arith))))

  pub by_digits : (x : ℕ) → P x
  by_digits x = by_fuel (suc x) x (omega arith)
