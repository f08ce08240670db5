-- What a walk of fields comes to.
use Rattle.std.specs.Prelude.{ℕ, ◌+◌, ◌*◌, ◌≤◌, ◌≡◌, List, Option, Some, None, Bool, true, false, ◌&&◌, ltb}
use Rattle.numbers.specs.Below.{all_below}
use Rattle.group.specs.Elements.{is_element}
use Rattle.rules.specs.Bytes.{number4}

-- the place after what was walked, or nothing where a field was refused
abbrev pub walk_if : Bool → ℕ → Option ℕ
walk_if true at = Some at
walk_if false at = None

-- what the step of a walk does within a bound: it goes past a block of a size where the block is good
pub record Strides (pre : ℕ → Type 0) (post : ℕ → Option ℕ → Type 0) (good : ℕ → Bool) (size end : ℕ) : Type 0 where
  pub may : (x : ℕ) → x + size ≤ end → pre x
  pub goes : (x : ℕ) (r : Option ℕ) → x + size ≤ end → post x r → r ≡ walk_if (good x) (x + size)

-- two elements, and pairs one after another
abbrev pub pair_fields : (s : List ℕ) (at p q : ℕ) → Bool
pair_fields s at p q = is_element p q (number4 s at) && is_element p q (number4 s (at + 4))

abbrev pub pairs_fields : (s : List ℕ) (at count p q : ℕ) → Bool
pairs_fields s at count p q = all_below count (λ i. pair_fields s (at + 8 * i) p q)

-- exponents one after another
abbrev pub exponents_fields : (s : List ℕ) (at count q : ℕ) → Bool
exponents_fields s at count q = all_below count (λ t. ltb (number4 s (at + 4 * t)) q)

-- the fields of a statement, and of a branch
abbrev pub statement_fields : (s : List ℕ) (at p q : ℕ) → Bool
statement_fields s at p q = pair_fields s at p q && ltb (number4 s (at + 8)) q

abbrev pub branch_fields : (s : List ℕ) (at statements p q : ℕ) → Bool
branch_fields s at statements p q = ltb (number4 s at) q && all_below statements (λ i. statement_fields s (at + 4 + 12 * i) p q)
