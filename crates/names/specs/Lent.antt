-- The names that are lent, and where each starts.
use Rattle.std.specs.Prelude.{ℕ, ◌≤◌, ◌<◌, ◌≡◌, true, List, length, get_or}
use Rattle.rules.specs.Notice.{name_from, name_fits}

-- the first n names fit, and their starts are known, and the place past the last
pub record Started (lent : List ℕ) (n : ℕ) (starts : List ℕ) : Type 0 where
  pub long : length starts ≡ 9
  pub few : n ≤ 8
  pub at : (i : ℕ) → i ≤ n → get_or starts i 0 ≡ name_from lent i
  pub fit : (i : ℕ) → i < n → name_fits lent i ≡ true
