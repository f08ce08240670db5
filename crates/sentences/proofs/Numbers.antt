-- The digits of a number: the last, and those ahead of it.
use Prim.Native.Nat.{ℕ, zero, suc, ◌+◌, ◌*◌, ◌/◌, ◌%◌, ◌^◌, ◌≤◌, ◌<◌}
use mathlib.Core.Path.{◌≡◌, sym, ap, ◌∙◌}
use mathlib.Core.Bool.{cond}
use mathlib.Core.List.{List, [], ◌∷◌, ◌++◌}
use native.Mathlib.Nat.{mod-lt, mod-eq_of_lt, div-add-mod', div-lt_self, pow-suc}
use native.Mathlib.Numerals.{add-one}
use native.Mathlib.Omega.{arith}
use lib.Dec.{leb}
use lib.ListN.{length, length-append}
use borrow.Author.Tests.{leb-true, leb-false, le-leb, lt-leb}
use Rattle.numbers.proofs.Tests.{by_cases}
use Rattle.rules.specs.Sentences.{decimal}
use Rattle.rules.proofs.Decimals.{one_digit, one_more}

-- those ahead of the last
abbrev pub ahead : (x : ℕ) → List ℕ
ahead x = cond (leb 10 x) (decimal (x / 10)) []

pub ahead_some : (x : ℕ) → 10 ≤ x → decimal (x / 10) ≡ ahead x
ahead_some x l = rw (le-leb 10 x l)

pub ahead_none : (x : ℕ) → x < 10 → [] ≡ ahead x
ahead_none x l = rw (lt-leb 10 x l)

pub digits_are : (x : ℕ) → decimal x ≡ ahead x ++ ((48 + x % 10) ∷ [])
digits_are x =
    by_cases (leb 10 x)
    (λ t.
    let l = leb-true 10 x t in
    let whole = div-add-mod' x 10 in
    rw t (sym (ap decimal whole) ∙ one_more (x / 10) (x % 10) (omega arith) (mod-lt x (omega arith))))
    (λ t.
    let l = leb-false 10 x t in
    let e : x % 10 ≡ x = mod-eq_of_lt (omega arith) in
    rw (t, e) (one_digit x (omega arith)))

pub digits_long : (x : ℕ) → length (decimal x) ≡ length (ahead x) + 1
digits_long x = ap length (digits_are x) ∙ length-append (ahead x) ((48 + x % 10) ∷ [])

pub less : (x : ℕ) → 10 ≤ x → x / 10 < x
less x l = div-lt_self (omega arith) (omega arith)

-- a number of so many digits at the most
pub decimal_few : (k x : ℕ) → x < 10 ^ (k + 1) → length (decimal x) ≤ k + 1
decimal_few zero x l = let e = ap length (one_digit x (omega arith)) in omega arith
decimal_few (suc k) x l =
    by_cases (leb 10 x)
    (λ t.
    let power : 10 ^ (suc k + 1) ≡ 10 ^ (k + 1) * 10 = rw (add-one (suc k)) (pow-suc 10 (suc k) ∙ rw (add-one k)) in
    let n = decimal_few k (x / 10) (omega arith) in
    let e = ap length (ahead_some x (leb-true 10 x t)) in
    omega (arith, digits_long x))
    (λ t. let e = ap length (one_digit x (omega (arith, leb-false 10 x t))) in omega arith)
