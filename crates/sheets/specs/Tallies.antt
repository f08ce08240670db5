-- The code's products as the rules'.
use Rattle.std.specs.Prelude.{ℕ, ◌%◌, ◌<◌, ◌≡◌, List, length, get_or}
use Rattle.group.specs.declared.Element.{Element}
use Rattle.rules.specs.Sheet as said
use Rattle.sheets.specs.declared.tally.Tally.{Tally}

-- the number of the i-th element
abbrev pub element_of : List Element → ℕ → ℕ
element_of xs i = (get_or xs i (record { 0 = 0 })).0

-- of n columns, modulo p
pub record Tallied (p n : ℕ) (t : Tally) (T : said.Tally) : Type 0 where
  pub b_long : length t.b ≡ 8
  pub y_long : length t.y ≡ 8
  pub b_is : (i : ℕ) → i < n → element_of t.b i ≡ T.b i % p
  pub y_is : (i : ℕ) → i < n → element_of t.y i ≡ T.y i % p
