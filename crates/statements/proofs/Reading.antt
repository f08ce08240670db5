-- What a walk of fields tells, one block after another.
use Prim.Native.Nat.{ℕ, ◌+◌, ◌*◌, ◌≤◌, ◌<◌}
use mathlib.Core.Path.{◌≡◌, refl, sym, ◌∙◌}
use mathlib.Core.Bool.{Bool, true, false}
use mathlib.Core.List.{List}
use native.Mathlib.Nat.{mul-le-mul_left, mul_comm, add_assoc}
use native.Mathlib.Omega.{arith}
use Rattle.std.specs.Prelude.{Option, Some, None, is_some, ltb}
use Rattle.numbers.specs.Below.{all_below}
use Rattle.numbers.proofs.Tests.{all_none, all_more, all_fails, all_end}
use Rattle.rules.specs.Bytes.{number4}
use Rattle.rules.specs.Proofs.{proof_fields}
use Rattle.statements.specs.Walks.{Strides, walk_if, statement_fields, branch_fields}

pub walk_to : (b : Bool) (n next : ℕ) → walk_if b n ≡ Some next → (b ≡ true) × (next ≡ n)
walk_to true n next h = (refl, cc)
walk_to false n next h = cc

pub walk_refused : (b : Bool) (n : ℕ) → walk_if b n ≡ None → b ≡ false
walk_refused true n h = cc
walk_refused false n h = refl

pub walk_some : (b : Bool) (n : ℕ) → is_some (walk_if b n) ≡ b
walk_some true n = refl
walk_some false n = refl

-- blocks of a size, one after another: i of them are walked, all good, and place is the next
pub record Walked (good : ℕ → Bool) (at size i place : ℕ) : Type 0 where
  pub here : place ≡ at + size * i
  pub all : all_below i (λ j. good (at + size * j)) ≡ true

pub walked_none : (good : ℕ → Bool) (at size : ℕ) → Walked good at size 0 at
walked_none good at size = record { here = omega arith; all = all_none _ }

module _ {pre : ℕ → Type 0} {post : ℕ → Option ℕ → Type 0} {good : ℕ → Bool} {size at count i place : ℕ} (s : Strides pre post good size (at + size * count)) (w : Walked good at size i place) where
  fits : i < count → place + size ≤ at + size * count
  fits l = omega (arith, w.here, mul-le-mul_left size l)

  pub walked_may : i < count → pre place
  walked_may l = s.may place (fits l)

  pub walked_more : {next : ℕ} → i < count → post place (Some next) → Walked good at size (i + 1) next
  walked_more {next} l h =
      let v = walk_to (good place) (place + size) next (sym (s.goes place (Some next) (fits l) h)) in
      record { here = omega (arith, v.1, w.here); all = all_more i _ w.all (rw (← w.here) v.0) }

  pub walked_bad : i < count → post place None → None ≡ walk_if (all_below count (λ j. good (at + size * j))) (at + size * count)
  walked_bad l h =
      let b = walk_refused (good place) (place + size) (sym (s.goes place None (fits l) h)) in
      rw (all_fails count i (λ j. good (at + size * j)) l (rw (← w.here) b))

  pub walked_end : i ≤ count → count ≤ i → Some place ≡ walk_if (all_below count (λ j. good (at + size * j))) (at + size * count)
  walked_end l d = let e : i ≡ count = omega arith in rw (all_end count i (λ j. good (at + size * j)) l d w.all, w.here, e)

-- the challenge of a branch, and its statements
pub branch_walked : (s : List ℕ) (at statements p q first : ℕ) (r : Option ℕ) → Some first ≡ walk_if (ltb (number4 s at) q) (at + 4) →
    r ≡ walk_if (all_below statements (λ i. statement_fields s (first + 12 * i) p q)) (first + 12 * statements) → r ≡ walk_if (branch_fields s at statements p q) (at + (4 + 12 * statements))
branch_walked s at statements p q first r e h = let w = walk_to _ _ _ (sym e) in h ∙ rw (w.0, w.1, add_assoc at 4 (12 * statements))

-- the branches of a proof
pub proof_walked : (s : List ℕ) (at branches statements p q : ℕ) → let size = 4 + 12 * statements in
    walk_if (all_below branches (λ l. branch_fields s (at + size * l) statements p q)) (at + size * branches) ≡ walk_if (proof_fields s at branches statements p q) (at + branches * size)
unfolding proof_fields
proof_walked s at branches statements p q = simp (λ (i : ℕ). mul_comm (4 + 12 * statements) i)
