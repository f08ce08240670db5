-- A proof's form, from its context and the number of its statements.
use Prim.Native.Nat.{ℕ, suc, ◌+◌, ◌*◌, ◌-◌, ◌/◌, ◌%◌, ◌≤◌, ◌<◌}
use mathlib.Core.Path.{◌≡◌, refl, sym, ap, ◌∙◌}
use mathlib.Core.Logic.{⊎_elim}
use native.Mathlib.Nat.{mul-le-mul, mul-le-mul_left, mul-le-mul_right, eq-or-lt_of_le, zero-mul, mul-add-div_right, mul-add-mod_self_right, mod-eq_of_lt, div-eq_of_lt, add-zero}
use native.Mathlib.Omega.{arith}
use lib.Dec.{leb}
use lib.ListN.{length, get_or}
use borrow.Author.Tests.{leb-true, leb-false}
use Rattle.numbers.proofs.Tests.{by_cases}
use Rattle.rules.specs.Proofs.{Context}
use Rattle.whole.specs.Messages.{Form, entry, row, column, shift, branches_of, statements_of, context_of, OnBoard}
use Rattle.whole.proofs.Complete.Written.{cell}

pub mark_long : (n number : ℕ) (f : Form) → length (context_of n number f).mark ≡ 2
unfolding context_of
mark_long n number (entry i j) = refl
mark_long n number (row i) = refl
mark_long n number (column j) = refl
mark_long n number (shift m) = refl

pub number_told : (n number : ℕ) (f : Form) → (context_of n number f).number ≡ number
unfolding context_of
number_told n number (entry i j) = refl
number_told n number (row i) = refl
number_told n number (column j) = refl
number_told n number (shift m) = refl

-- the first letter of the mark
letter : Context → ℕ
letter c = get_or c.mark 0 0

-- more branches, each of as many statements or more, are more statements
more : (r r' a a' : ℕ) → r < r' → a ≤ a' → 0 < a' → (r + 1) * (a * 16) < (r' + 1) * (a' * 16)
more r r' a a' h k l =
    let each : (r + 1) * (a * 16) ≤ (r + 1) * (a' * 16) = mul-le-mul_left (r + 1) (omega arith) in
    let up : (r + 2) * (a' * 16) ≤ (r' + 1) * (a' * 16) = mul-le-mul_right (a' * 16) (omega arith) in
    omega arith

abbrev Total : (n m : ℕ) → ℕ
Total n m = (n - suc m + 1) * ((2 + (n - suc m) * n) * 16)

abbrev SameSize : (n n' m : ℕ) → Type 0
SameSize n n' m = (n - suc m + 1 ≡ n' - suc m + 1) × (2 + (n - suc m) * n ≡ 2 + (n' - suc m) * n')

-- where both have no row left, each has one branch of two statements
rising : (n n' m : ℕ) → n ≤ n' → Total n m ≡ Total n' m → SameSize n n' m
rising n n' m h e =
    ⊎_elim
    (λ (q : n ≡ n'). rw q (refl, refl))
    (λ (l : n < n').
    ⊎_elim
    (λ (q : n - suc m ≡ n' - suc m). let z : n - suc m ≡ 0 = omega arith in let z' : n' - suc m ≡ 0 = omega arith in rw (z, z', zero-mul, zero-mul) (refl, refl))
    (λ (l : n - suc m < n' - suc m).
    absurd (omega (
      arith,
      more (n - suc m) (n' - suc m) (2 + (n - suc m) * n) (2 + (n' - suc m) * n')
          l (omega (arith, mul-le-mul {n₁ = n - suc m} {m₁ = n} {n₂ = n' - suc m} {m₂ = n'} (omega arith) h)) (omega arith),
    )))
    (eq-or-lt_of_le {n = n - suc m} {m = n' - suc m} (omega arith)))
    (eq-or-lt_of_le h)

shift_size : (n n' m : ℕ) → Total n m ≡ Total n' m → SameSize n n' m
shift_size n n' m e =
    by_cases (leb n n') (λ t. rising n n' m (leb-true n n' t) e)
    (λ f. let w = rising n' n m (omega (arith, leb-false n n' f)) (sym e) in (sym w.0, sym w.1))

module _ (n n' number number' : ℕ) where
  abbrev Told : Form → Form → Type 0
  Told f f' =
      context_of n number f ≡ context_of n' number' f' → branches_of n f * (statements_of n f * 16) ≡ branches_of n' f' * (statements_of n' f' * 16) →
      (branches_of n f ≡ branches_of n' f') × (statements_of n f ≡ statements_of n' f')

  pub size_told : (f f' : Form) → Told f f'
  unfolding context_of branches_of statements_of letter
  size_told (entry i j) (entry i' j') c e = (refl, refl)
  size_told (entry i j) (row i') c e = absurd (omega arith)
  size_told (entry i j) (column j') c e = absurd (omega arith)
  size_told (entry i j) (shift m') c e = absurd (omega (arith, ap letter c))
  size_told (row i) (entry i' j') c e = absurd (omega arith)
  size_told (row i) (row i') c e = (refl, refl)
  size_told (row i) (column j') c e = (refl, refl)
  size_told (row i) (shift m') c e = absurd (omega (arith, ap letter c))
  size_told (column j) (entry i' j') c e = absurd (omega arith)
  size_told (column j) (row i') c e = (refl, refl)
  size_told (column j) (column j') c e = (refl, refl)
  size_told (column j) (shift m') c e = absurd (omega (arith, ap letter c))
  size_told (shift m) (entry i' j') c e = absurd (omega (arith, ap letter c))
  size_told (shift m) (row i') c e = absurd (omega (arith, ap letter c))
  size_told (shift m) (column j') c e = absurd (omega (arith, ap letter c))
  size_told (shift m) (shift m') c e =
      let same : m' ≡ m = omega (arith, ap (λ (x : Context). x.round) c) in
      rw same (shift_size n n' m (rw same at e))

-- ---- with n processes each form has its own context
cell_told : (n i j i' j' : ℕ) → j < n → j' < n → i * n + j ≡ i' * n + j' → (i ≡ i') × (j ≡ j')
cell_told n i j i' j' h h' e =
    let some : 0 < n = omega arith in
    let row : (a b : ℕ) → b < n → (a * n + b) / n ≡ a = λ a b l. mul-add-div_right some a b ∙ rw (div-eq_of_lt l) (add-zero a) in
    let column : (a b : ℕ) → b < n → (a * n + b) % n ≡ b = λ a b l. mul-add-mod_self_right a n b ∙ mod-eq_of_lt l in
    (sym (row i j h) ∙ ap (λ (x : ℕ). x / n) e ∙ row i' j' h', sym (column i j h) ∙ ap (λ (x : ℕ). x % n) e ∙ column i' j' h')

module _ (n rounds kind kind' number number' : ℕ) where
  abbrev Same : Form → Form → Type 0
  Same f f' = OnBoard n rounds kind f → OnBoard n rounds kind' f' → context_of n number f ≡ context_of n number' f' → f ≡ f'

  abbrev at : Context → ℕ
  at c = c.place

  pub form_told : (f f' : Form) → Same f f'
  unfolding context_of OnBoard letter
  form_told (entry i j) (entry i' j') o o' c = let q = cell_told n i j i' j' o.1 o'.1 (ap at c) in λ t. entry (q.0 t) (q.1 t)
  form_told (entry i j) (row i') o o' c = absurd (omega (arith, ap at c, cell n n i j o.0 o.1))
  form_told (entry i j) (column j') o o' c = absurd (omega (arith, ap at c, cell n n i j o.0 o.1))
  form_told (entry i j) (shift m') o o' c = absurd (omega (arith, ap letter c))
  form_told (row i) (entry i' j') o o' c = absurd (omega (arith, ap at c, cell n n i' j' o'.0 o'.1))
  form_told (row i) (row i') o o' c = let q : i ≡ i' = omega (arith, ap at c) in ap row q
  form_told (row i) (column j') o o' c = absurd (omega (arith, ap at c))
  form_told (row i) (shift m') o o' c = absurd (omega (arith, ap letter c))
  form_told (column j) (entry i' j') o o' c = absurd (omega (arith, ap at c, cell n n i' j' o'.0 o'.1))
  form_told (column j) (row i') o o' c = absurd (omega (arith, ap at c))
  form_told (column j) (column j') o o' c = let q : j ≡ j' = omega (arith, ap at c) in ap column q
  form_told (column j) (shift m') o o' c = absurd (omega (arith, ap letter c))
  form_told (shift m) (entry i' j') o o' c = absurd (omega (arith, ap letter c))
  form_told (shift m) (row i') o o' c = absurd (omega (arith, ap letter c))
  form_told (shift m) (column j') o o' c = absurd (omega (arith, ap letter c))
  form_told (shift m) (shift m') o o' c = let q : m ≡ m' = omega (arith, ap (λ (x : Context). x.round) c) in ap shift q
