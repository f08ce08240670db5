-- Sums, products, tests and joined lists over the numbers below a bound.
use Rattle.std.specs.Prelude.{ℕ, zero, suc, ◌+◌, ◌*◌, List, [], ◌++◌, Bool, true, false, cond, ◌&&◌, ◌||◌, eqb}

-- every k below the bound passes the test
unfoldable pub all_below : ℕ → (ℕ → Bool) → Bool
all_below zero f = true
all_below (suc k) f = all_below k f && f k

unfoldable pub any_below : ℕ → (ℕ → Bool) → Bool
any_below zero f = false
any_below (suc k) f = any_below k f || f k

-- the first k below the bound that passes the test, counted from 1; 0 where none does
unfoldable pub first_below : ℕ → (ℕ → Bool) → ℕ
first_below zero f = 0
first_below (suc k) f = cond (eqb (first_below k f) 0) (cond (f k) (suc k) 0) (first_below k f)

unfoldable pub sum_below : ℕ → (ℕ → ℕ) → ℕ
sum_below zero f = 0
sum_below (suc k) f = sum_below k f + f k

unfoldable pub prod_below : ℕ → (ℕ → ℕ) → ℕ
prod_below zero f = 1
prod_below (suc k) f = prod_below k f * f k

-- f 0, f 1, .. one after another
unfoldable pub concat_below : ℕ → (ℕ → List ℕ) → List ℕ
concat_below zero f = []
concat_below (suc k) f = concat_below k f ++ f k
