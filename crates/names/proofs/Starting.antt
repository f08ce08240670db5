-- The starts of names, one more at a time.
use Prim.Native.Nat.{ℕ, ◌+◌, ◌≤◌, ◌<◌}
use mathlib.Core.Path.{◌≡◌, ◌∙◌}
use mathlib.Core.Bool.{true, false, not, and-false}
use mathlib.Core.List.{List}
use native.Mathlib.Numerals.{add-one}
use native.Mathlib.Omega.{arith}
use lib.Dec.{leb, ltb}
use lib.ListN.{length, get_or, set, take, drop, length-set}
use lib.Seq.{get_or-set_same, get_or-set_other}
use borrow.Author.Tests.{leb-true, leb-false, ltb-true, ltb-false, eq-eqb, ne_eqb}
use Rattle.numbers.proofs.Tests.{by_cases, all_true, all_fails}
use Rattle.numbers.specs.Below.{all_below}
use Rattle.rules.specs.Receipts.{same}
use Rattle.rules.specs.Notice.{name_from, name_length, name_of, name_fits, names_good}
use Rattle.rules.proofs.Names.{name_long, name_fits_lem}
use Rattle.names.specs.Lent.{Started}

pub next_start : (lent : List ℕ) (i : ℕ) → name_from lent (i + 1) ≡ name_from lent i + name_length lent i + 1
unfolding name_from
next_start lent i = rw (add-one i)

pub started_none : (lent starts : List ℕ) → length starts ≡ 9 → get_or starts 0 0 ≡ 0 → Started lent 0 starts
unfolding name_from
started_none lent starts l e =
    record { long = l; few = omega arith; at = λ i b. let z : i ≡ 0 = omega arith in rw z e; fit = λ i b. absurd (omega arith) }

pub started_more : (lent starts : List ℕ) (i x : ℕ) → Started lent i starts → i < 8 → name_fits lent i ≡ true → x ≡ name_from lent (i + 1) →
    Started lent (i + 1) (set starts (i + 1) x)
started_more lent starts i x w l f e =
    record {
      long = length-set starts (i + 1) x ∙ w.long;
      few = omega arith;
      at = λ j b.
          by_cases (leb j i)
          (λ t. get_or-set_other starts (i + 1) j x 0 (λ q. omega (arith, leb-true j i t)) ∙ w.at j (leb-true j i t))
          (λ t. let q : j ≡ i + 1 = omega (arith, leb-false j i t) in rw q (get_or-set_same starts (i + 1) x 0 (omega (arith, w.long)) ∙ e));
      fit = λ j b. by_cases (ltb j i) (λ t. w.fit j (ltb-true j i t)) (λ t. let q : j ≡ i = omega (arith, ltb-false j i t) in rw q f);
    }

-- the name of process i + 1 stands from its start to the line feed ahead of the next
pub record Spans (lent starts : List ℕ) (i : ℕ) : Type 0 where
  pub from : get_or starts i 0 ≡ name_from lent i
  pub to : get_or starts (i + 1) 0 ≡ name_from lent i + name_length lent i + 1
  pub inside : name_from lent i + name_length lent i < length lent

pub spans : (lent starts : List ℕ) (n i : ℕ) → Started lent n starts → i < n → Spans lent starts i
spans lent starts n i w l =
    record { from = w.at i (omega arith); to = w.at (i + 1) (omega arith) ∙ next_start lent i; inside = (name_fits_lem lent i (w.fit i l)).inside }

pub name_is : (lent : List ℕ) (i a k : ℕ) → a ≡ name_from lent i → k ≡ name_length lent i → take k (drop a lent) ≡ name_of lent i
name_is lent i a k e f = rw (e, f)

pub name_few : (lent starts : List ℕ) (n i : ℕ) → Started lent n starts → i < n → length (name_of lent i) ≤ 20
name_few lent starts n i w l = rw (name_long lent i) (name_fits_lem lent i (w.fit i l)).few

-- ---- whether n names are good
module _ (lent : List ℕ) (n : ℕ) where
  pub not_fitting : (i : ℕ) → i < n → name_fits lent i ≡ false → names_good lent n ≡ false
  unfolding names_good
  not_fitting i l e = rw (all_fails n i (name_fits lent) l e)

  pub not_ended : (name_from lent n ≡ length lent → ⊥) → names_good lent n ≡ false
  unfolding names_good
  not_ended ne = rw (ne_eqb (name_from lent n) (length lent) ne, and-false)

  pub good_if_different : (starts : List ℕ) → Started lent n starts → name_from lent n ≡ length lent →
      names_good lent n ≡ all_below n (λ i. all_below i (λ j. not (same (name_of lent i) (name_of lent j))))
  unfolding names_good
  good_if_different starts w e = rw (all_true n (name_fits lent) w.fit, eq-eqb (name_from lent n) (length lent) e)
