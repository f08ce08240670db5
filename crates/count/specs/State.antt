-- What the code's standing count stands for in the rules.
use Rattle.std.specs.Prelude.{ℕ, ◌+◌, ◌*◌, ◌-◌, ◌≤◌, ◌≡◌, List, [], ◌∷◌, ◌++◌, map, Bool, cond, not, ◌&&◌, ◌||◌, eqb, ltb, length, take, drop, replicate}
use Rattle.rules.specs.Count.{Standing, Result, member, behind, pick}
use Rattle.count.specs.declared.Sheet.{Sheet}
use Rattle.count.specs.declared.Gone.{Gone}
use Rattle.count.specs.declared.Count.{Count}
use Rattle.count.specs.declared.Ended.{Ended}

-- the counts of n processes
abbrev pub counts_on : (n : ℕ) → Sheet → List ℕ
counts_on n t = take n t.counts

-- those gone out, in order
abbrev pub list_of : Gone → List ℕ
list_of g = take g.outs g.order

-- and the counts of as many rounds
unfoldable pub standing_of : (n : ℕ) → Count → Standing
standing_of n c = record { gone = list_of c.gone; sheets = map (counts_on n) (take c.gone.outs c.sheets) }

-- what a count that has ended comes to: it has one sheet more than have gone out
unfoldable pub result_of : (n : ℕ) → Ended → Result
result_of n e =
    record {
      rounds = e.count.gone.outs + 1;
      counts = map (counts_on n) (take (e.count.gone.outs + 1) e.count.sheets);
      order = list_of e.count.gone;
      winner = e.winner;
    }

-- process out has gone out, with the sheet of its round: `next`, where out is who leaves
abbrev pub went_out : Standing → (out : ℕ) (counts : List ℕ) → Standing
went_out st out counts = record { gone = st.gone ++ (out ∷ []); sheets = st.sheets ++ (counts ∷ []) }

-- room for 8; past those gone out there are zeros
pub record Listed (g : Gone) : Type 0 where
  pub few : g.outs ≤ 8
  pub order_long : length g.order ≡ 8
  pub zeros : drop g.outs g.order ≡ replicate (8 - g.outs) 0

pub record Kept (c : Count) : Type 0 where
  pub listed : Listed c.gone
  pub sheets_long : length c.sheets ≡ 8

-- the counts of all sheets
abbrev pub counts_by : List Sheet → List (List ℕ)
counts_by sheets = map (λ t. t.counts) sheets

-- a later process is picked where another was: for the least, where that was not behind it; for the most, where it was
abbrev pub replaces : (least behind : Bool) → Bool
replaces least behind = cond least (not behind) behind

-- the pick among the first i + 1, from the pick among the first i
abbrev pub picked : (least : Bool) → Standing → (counts : List ℕ) (best i : ℕ) → ℕ
picked least st counts best i =
    cond (member (i + 1) st.gone) best (cond (eqb best 0 || replaces least (behind st counts best (i + 1))) (i + 1) best)

-- who leaves, or else who wins, among the first i
abbrev pub pick_of : (least : Bool) → Standing → (counts : List ℕ) (i : ℕ) → ℕ
pick_of least st counts i = pick st.gone (λ best c. replaces least (behind st counts best c)) i

abbrev pub passes : (out : Bool) (votes K : ℕ) → Bool
passes out votes K = not out && ltb K (2 * votes)
