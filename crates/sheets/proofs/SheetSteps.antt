-- What a sheet comes to, by its out field, and what is read of it, one process at a time.
use Prim.Native.Nat.{ℕ, ◌+◌, ◌≤◌, ◌<◌}
use mathlib.Core.Path.{◌≡◌, refl, ap, ◌∙◌}
use mathlib.Core.Bool.{true, false, cond}
use mathlib.Core.List.{List}
use native.Mathlib.Omega.{arith}
use lib.ListN.{length, set}
use lib.Seq.{get_or-set_same, get_or-set_other}
use borrow.Author.Count.{below_more}
use borrow.Author.Tests.{eq-eqb, ne_eqb}
use Rattle.group.specs.declared.Exponent.{Exponent}
use Rattle.rules.specs.Count.{Result, ended, leaves, closes}
use Rattle.rules.specs.Tests.{first_fault}
use Rattle.rules.specs.declared.Refusal.TheVariants as R
use Rattle.count.specs.declared.Count.{Count}
use Rattle.count.specs.declared.Ended.{Ended}
use Rattle.count.specs.State.{standing_of, result_of, went_out, Kept}
use Rattle.std.specs.Prelude.{Ok, Err, IfOk}
use Rattle.std.specs.Prelude as P
use Rattle.rules.specs.declared.Refusal.{Refusal}
use Rattle.sheets.specs.declared.Step.{Step}
use Rattle.sheets.specs.declared.Outcome.TheVariants.{Closed, Open}
use Rattle.sheets.specs.Sheets.{Comes, Stepped, out_fault, exponent_of}

-- one more exponent read
pub exponents_more : (f : ℕ → ℕ) (xs : List Exponent) (i : ℕ) (x : Exponent) → i < length xs → ((j : ℕ) → j < i → exponent_of xs j ≡ f j) → x.0 ≡ f i →
    (j : ℕ) → j < i + 1 → exponent_of (set xs i x) j ≡ f j
exponents_more f xs i x l h e =
    below_more _ _
    (λ j b. ap (λ (y : Exponent). y.0) (get_or-set_other xs i j x _ (λ z. omega arith)) ∙ h j b)
    (ap (λ (y : Exponent). y.0) (get_or-set_same xs i x _ l) ∙ e)

module _ (n k : ℕ) (c : Count) (cs : List ℕ) where
  -- what the out field is to hold
  abbrev due : ℕ
  due = cond (closes n (standing_of n c) cs k) 0 (leaves n (standing_of n c) cs)

  pub due_closed : closes n (standing_of n c) cs k ≡ true → 0 ≡ due
  due_closed e = rw e

  pub due_open : closes n (standing_of n c) cs k ≡ false → (a : ℕ) → a ≡ leaves n (standing_of n c) cs → a ≡ due
  due_open e a l = rw e l

module _ (n k : ℕ) (c : Count) (cs : List ℕ) (out place : ℕ) where
  pub wrong_out : (d : ℕ) → d ≡ due n k c cs → (out ≡ d → ⊥) → Stepped n k c cs (out_fault n k c cs out) place (Err R.Out)
  unfolding Stepped first_fault
  wrong_out d e x = rw (← e, ne_eqb out d x)

  pub closed : closes n (standing_of n c) cs k ≡ true → out ≡ 0 → (r : Ended) → r.count.gone ≡ c.gone → Kept r.count → result_of n r ≡ ended n (standing_of n c) cs →
      Stepped n k c cs (out_fault n k c cs out) place (Ok (record { outcome = Closed r.winner; count = r.count; next = place }))
  unfolding Stepped Comes first_fault result_of
  closed e x r gone kept er = (rw (e, eq-eqb out 0 x), refl, (e, ap (λ (y : Result). y.winner) er, gone, kept, er))

  pub opened : closes n (standing_of n c) cs k ≡ false → (a : ℕ) → a ≡ leaves n (standing_of n c) cs → a ≤ n → out ≡ a →
      (after : Count) → after.gone.outs ≡ c.gone.outs + 1 → Kept after → standing_of n after ≡ went_out (standing_of n c) a cs →
      Stepped n k c cs (out_fault n k c cs out) place (Ok (record { outcome = Open a; count = after; next = place }))
  unfolding Stepped Comes first_fault
  opened e a l small x after outs kept st = (rw (e, eq-eqb out _ (x ∙ l)), refl, (e, l, small, outs, kept, rw (← l) st))

-- the place after a sheet that passes its tests
pub place_after : (n k : ℕ) (c : Count) (cs : List ℕ) (fault place : ℕ) (r : P.Result Step Refusal) → Stepped n k c cs fault place r → IfOk r (λ step. step.next ≡ place)
unfolding Stepped
place_after n k c cs fault place (Ok step) w = w.1
place_after n k c cs fault place (Err e) w = tt
