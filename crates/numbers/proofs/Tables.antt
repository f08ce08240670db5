-- A table filled from the front by a rule.
use Prim.Native.Nat.{ℕ, zero, suc, ◌+◌, ◌<◌}
use mathlib.Core.Path.{◌≡◌, refl, ◌∙◌}
use mathlib.Core.List.{List}
use native.Mathlib.Omega.{arith}
use borrow.Author.Count.{below_more}
use lib.ListN.{length, get_or, set, replicate}
use lib.Seq.{get_or-set_same, get_or-set_other}

pub filled_more : (f : ℕ → ℕ) (t : List ℕ) (u x : ℕ) → u < length t → x ≡ f u → ((v : ℕ) → v < u → get_or t v 0 ≡ f v) →
    (v : ℕ) → v < u + 1 → get_or (set t u x) v 0 ≡ f v
filled_more f t u x l e h =
    below_more (λ (v : ℕ). get_or (set t u x) v 0 ≡ f v) u (λ v b. get_or-set_other t u v x 0 (λ z. omega arith) ∙ h v b) (get_or-set_same t u x 0 l ∙ e)

-- a table of zeros holds 0 everywhere, and 0 is read past it
pub zero_everywhere : (n i : ℕ) → ◌≡◌ {A = ℕ} (get_or (replicate n 0) i 0) 0
zero_everywhere zero i = refl
zero_everywhere (suc n) zero = refl
zero_everywhere (suc n) (suc i) = zero_everywhere n i
