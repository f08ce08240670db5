-- Numbers in decimal: digits alone, read back, and written in one way.
use Prim.Native.Nat.{ℕ, zero, suc, ◌+◌, ◌*◌, ◌-◌, ◌≤◌, ◌<◌}
use mathlib.Core.Path.{◌≡◌, refl, sym, ap, ◌∙◌}
use mathlib.Core.Bool.{Bool, true, ◌&&◌, and-eq-true_iff}
use mathlib.Core.List.{List, [], ◌∷◌, ◌++◌, append-nil, append_assoc}
use native.Mathlib.Omega.{arith}
use lib.Dec.{leb}
use lib.ListN.{length, get_or, length-append, get_or-append}
use borrow.Author.Tests.{le-leb, leb-true}
use Rattle.numbers.proofs.Tests.{and_true}
use Rattle.rules.specs.Sentences.{decimal}
use Rattle.rules.proofs.Decimals.{one_digit, one_more, by_digits}
use Rattle.whole.specs.Sentences.{read_from, IsDecimal}

-- ---- lists all of whose elements pass a test
abbrev pub Each : (p : ℕ → Bool) → List ℕ → Type 0
Each p [] = Unit
Each p (x ∷ xs) = (p x ≡ true) × Each p xs

module _ (p : ℕ → Bool) where
  pub each_append : (x y : List ℕ) → Each p x → Each p y → Each p (x ++ y)
  each_append [] y a b = b
  each_append (c ∷ x) y a b = (a.0, each_append x y a.1 b)

  pub each_at : (x : List ℕ) → Each p x → (i : ℕ) → i < length x → p (get_or x i 0) ≡ true
  each_at [] a i l = absurd (omega arith)
  each_at (c ∷ x) a zero l = a.0
  each_at (c ∷ x) a (suc i) l = each_at x a.1 i (omega arith)

  pub each_of : (x : List ℕ) → ((i : ℕ) → i < length x → p (get_or x i 0) ≡ true) → Each p x
  each_of [] h = record {}
  each_of (c ∷ x) h = (h 0 (omega arith), each_of x (λ i l. h (suc i) (omega arith)))

-- ---- digits
unfoldable pub is_digit : (x : ℕ) → Bool
is_digit x = leb 48 x && leb x 57

is_digit_lem : (x : ℕ) → 48 ≤ x → x ≤ 57 → is_digit x ≡ true
unfolding is_digit
is_digit_lem x l h = and_true (le-leb 48 x l) (le-leb x 57 h)

digit_low : (x : ℕ) → is_digit x ≡ true → 48 ≤ x
unfolding is_digit
digit_low x h = leb-true 48 x ((and-eq-true_iff (leb 48 x) (leb x 57)).0 h).0

digit_high : (x : ℕ) → is_digit x ≡ true → x ≤ 57
unfolding is_digit
digit_high x h = leb-true x 57 ((and-eq-true_iff (leb 48 x) (leb x 57)).0 h).1

-- ---- every number
pub digits : (x : ℕ) → Each is_digit (decimal x)
digits =
    by_digits (λ (x : ℕ). Each is_digit (decimal x))
    (λ x l. rw (one_digit x l) (is_digit_lem (48 + x) (omega arith) (omega arith), record {}))
    (λ a d l h ih. rw (one_more a d l h) (each_append is_digit (decimal a) ((48 + d) ∷ []) ih (is_digit_lem (48 + d) (omega arith) (omega arith), record {})))

-- the first digit is no 0 but of 0, and a second one takes 10
record First (x : ℕ) : Type 0 where
  some : 1 ≤ length (decimal x)
  no_zero : 0 < x → 49 ≤ get_or (decimal x) 0 0
  second : 2 ≤ length (decimal x) → 0 < x

first : (x : ℕ) → First x
first =
    by_digits First
    (λ x l. let one = one_digit x l in record { some = rw one (omega arith); no_zero = λ h. rw one (omega arith); second = λ h. absurd (omega (arith, rw one at h)) })
    (λ a d l h ih.
    let more = one_more a d l h in
    record {
      some = rw more (simp length-append (omega arith));
      no_zero = λ _. rw (more, get_or-append (decimal a) ((48 + d) ∷ []) 0 0 ih.some) (ih.no_zero l);
      second = λ _. omega arith;
    })

pub is_decimal : (x : ℕ) → IsDecimal (decimal x)
is_decimal x =
    let f = first x in
    record {
      some = f.some;
      low = λ i l. digit_low _ (each_at is_digit (decimal x) (digits x) i l);
      high = λ i l. digit_high _ (each_at is_digit (decimal x) (digits x) i l);
      no_zero_first = λ h. f.no_zero (f.second h);
    }

-- ---- read back
read_more : (sofar : ℕ) (ds : List ℕ) (d : ℕ) → read_from sofar (ds ++ (d ∷ [])) ≡ read_from sofar ds * 10 + (d - 48)
unfolding read_from
read_more sofar [] d = refl
read_more sofar (e ∷ ds) d = read_more (sofar * 10 + (e - 48)) ds d

pub reads_back : (x : ℕ) → read_from 0 (decimal x) ≡ x
unfolding read_from
reads_back =
    by_digits (λ (x : ℕ). read_from 0 (decimal x) ≡ x)
    (λ x l. rw (one_digit x l) (omega arith))
    (λ a d l h ih. rw (one_more a d l h, read_more 0 (decimal a) (48 + d), ih) (omega arith))

pub decimal_told : (x y : ℕ) → decimal x ≡ decimal y → x ≡ y
decimal_told x y e = sym (reads_back x) ∙ ap (read_from 0) e ∙ reads_back y

-- ---- one way
written_on : (sofar : ℕ) (ds : List ℕ) → 0 < sofar → Each is_digit ds → decimal (read_from sofar ds) ≡ decimal sofar ++ ds
unfolding read_from
written_on sofar [] l a = sym (append-nil (decimal sofar))
written_on sofar (d ∷ ds) l a =
    let low = digit_low d a.0 in
    let high = digit_high d a.0 in
    let same : 48 + (d - 48) ≡ d = omega arith in
    written_on (sofar * 10 + (d - 48)) ds (omega arith) a.1 ∙ rw (one_more sofar (d - 48) l (omega arith), same, append_assoc)

pub one_way : (ds : List ℕ) → IsDecimal ds → decimal (read_from 0 ds) ≡ ds
unfolding read_from
one_way [] w = absurd (omega (arith, w.some))
one_way (d ∷ []) w =
    let low : 48 ≤ d = w.low 0 (omega arith) in
    let high : d ≤ 57 = w.high 0 (omega arith) in
    let same : 48 + (d - 48) ≡ d = omega arith in
    let read : 0 * 10 + (d - 48) ≡ d - 48 = omega arith in
    rw (read, one_digit (d - 48) (omega arith), same)
one_way (d ∷ e ∷ ds) w =
    let low : 49 ≤ d = w.no_zero_first (omega arith) in
    let high : d ≤ 57 = w.high 0 (omega arith) in
    let same : 48 + (d - 48) ≡ d = omega arith in
    let rest = each_of is_digit (e ∷ ds) (λ i l. is_digit_lem _ (w.low (suc i) (omega arith)) (w.high (suc i) (omega arith))) in
    let read : 0 * 10 + (d - 48) ≡ d - 48 = omega arith in
    rw read (written_on (d - 48) (e ∷ ds) (omega arith) rest ∙ rw (one_digit (d - 48) (omega arith), same))
