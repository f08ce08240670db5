-- What a pair, a matrix and a board open to.
use Rattle.std.specs.Prelude.{ℕ, zero, suc, ◌-◌, ◌<◌, ◌≡◌, true, cond, List, [], ◌∷◌, eqb, length}
use Rattle.group.specs.Arithmetic.{pow_mod}
use Rattle.group.specs.Elements.{Parameters}
use Rattle.rules.specs.Group.{paired}
use Rattle.rules.specs.Claims.{Matrix}
use Rattle.rules.specs.Records.{is_counted}
use Rattle.rules.specs.Count.{is_ranking}
use Rattle.rules.specs.Header.{header}
use Rattle.rules.specs.Audit.{value_of}
use Rattle.rules.specs.Check.{kind, matrix, out_field}

-- "A pair (b, Y) opens to x and v, both 0 to q−1, if b = g0^x × g1^v and Y = g1^x."
pub record Opening (g : Parameters) (b y x v : ℕ) : Type 0 where
  pub x_below : x < g.q
  pub v_below : v < g.q
  pub first : b ≡ paired g x v
  pub second : y ≡ pow_mod g.p g.g1 x

-- "A matrix opens to a list of different processes if it has one row for each place of the list and n columns, and each pair opens to some x
-- and to v = 1 in the column of the process at its row's place, else to v = 0."
pub record OpensTo (g : Parameters) (rows n : ℕ) (M : Matrix) (list : List ℕ) : Type 0 where
  pub a_row_each : length list ≡ rows
  pub pairs : (i j : ℕ) → i < rows → j < n → (x : ℕ) × Opening g (M.b i j) (M.y i j) x (value_of list i j)

-- a list of different processes without one of them
unfoldable pub without : ℕ → List ℕ → List ℕ
without c [] = []
without c (x ∷ xs) = cond (eqb c x) (without c xs) (x ∷ without c xs)

-- ballot k of a board is counted (02, L5)
abbrev pub Counted : (s : List ℕ) (k : ℕ) → Type 0
Counted s k = is_counted (kind s (header s) k) ≡ true

module _ (s : List ℕ) (rankings : ℕ → List ℕ) where
  -- ballot k's list in round m: its ranking, then "that of the same ballot's matrix a round earlier without the process that the sheet between them names as out"
  unfoldable pub list_at : (m k : ℕ) → List ℕ
  list_at zero k = rankings k
  list_at (suc m) k = without (out_field s (header s) m) (list_at m k)

  -- "A first matrix, in BA, opens to a full ranking"; "A later one, in SH, opens to the one before with a row struck": those of the counted ballots
  pub record Opens (rounds : ℕ) : Type 0 where
    pub full : (k : ℕ) → k < (header s).K → Counted s k → is_ranking (header s).n (rankings k) ≡ true
    pub opens : (m k : ℕ) → m < rounds → k < (header s).K → Counted s k →
        OpensTo (header s).group ((header s).n - m) (header s).n (matrix s (header s) m k) (list_at m k)
