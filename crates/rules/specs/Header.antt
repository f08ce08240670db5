-- The header, which a board starts with: 01's HD record, marked HF.
use Rattle.std.specs.Prelude.{ℕ, Bool, ◌&&◌, List, [], ◌∷◌, leb, length, get_or}
use Rattle.group.specs.Elements.{Parameters}
use Rattle.rules.specs.Bytes.{number4, number2, part}
use Rattle.rules.specs.Group.{orders, generators}
use Rattle.rules.specs.Records.{HF, has_mark, header_length}
use Rattle.rules.specs.Tests.{first_fault, ◌or_else◌}
use Rattle.rules.specs.declared.Model.{Model}

-- "n is the number of processes (2 to 8, numbered from 1), K the number of ballots (1 to 1,000)."; 02, L12: "the box keeps 8 and 1,000"
abbrev pub ranked : Model
ranked = record { mark = HF; least = 2; most = 8; ballots = 1000; shows = 8; stores = 1000 }

-- the same boards for the screen in the council room, which "shows five names and stores 200 ballots' lines. A second entry to the checker holds boards
-- to n ≤ 5 and K ≤ 200" (02, L12)
abbrev pub small : Model
small = record { mark = ranked.mark; least = ranked.least; most = ranked.most; ballots = ranked.ballots; shows = 5; stores = 200 }

-- n and K are in a model's range
abbrev pub sizes : Model → (n K : ℕ) → Bool
sizes model n K = leb model.least n && leb n model.most && leb 1 K && leb K model.ballots

-- and no more than are shown and stored
abbrev pub limits : Model → (n K : ℕ) → Bool
limits model n K = leb n model.shows && leb K model.stores

-- "n 1, K 2, p 4, q 4, g0 4, counter 1, g1 4, label 32"; the counter serves to make g1 alone
pub record Header : Type 0 where
  pub n : ℕ
  pub K : ℕ
  pub group : Parameters
  pub label : List ℕ

module _ (s : List ℕ) where
  unfoldable pub header : Header
  header = record { n = get_or s 2 0; K = number2 s 3; group = record { p = number4 s 5; q = number4 s 9; g0 = number4 s 13; g1 = number4 s 18 }; label = part s 22 32 }

  abbrev pub counter_field : ℕ
  counter_field = get_or s 17 0

-- 1 ("for a first record, 54"), 2, "n or K out of range", 23 ("a header past 5 or 200 but within 3, right after 3": 02, L12), "a rule on p and q
-- broken", "a rule on g0 or g1 broken"
unfoldable pub header_fault : (hash : List ℕ → List ℕ) → Model → (s : List ℕ) → ℕ
unfolding header
header_fault hash model s =
    first_fault
    ((leb header_length (length s) or_else 1)
    ∷ (has_mark s 0 model.mark or_else 2)
    ∷ (sizes model (header s).n (header s).K or_else 3)
    ∷ (limits model (header s).n (header s).K or_else 23)
    ∷ (orders (header s).n (header s).K (header s).group.p (header s).group.q or_else 4)
    ∷ (generators hash (header s).label (counter_field s) (header s).group or_else 5)
    ∷ [])
