use Prim.Native.Nat.{ℕ, ◌+◌, ◌-◌, ◌*◌, ◌≤◌}
use mathlib.Core.Path.{◌≡◌}
use mathlib.Core.List.{List}
use lib.ListN.{length, get_or}
use Rattle.rules.specs.Bytes.{part}
use Rattle.rules.specs.Records.{is_counted}
use Rattle.rules.specs.Count.{plain_count, count_from, table_where}
use Rattle.count.specs.State.{Kept, standing_of}
use Rattle.plain.proofs.rounds.count.Given as goal

-- the counted rankings
abbrev pub ranked : (rankings kinds : List ℕ) (n k : ℕ) → List (List ℕ)
ranked rankings kinds n k = table_where k (λ b. is_counted (get_or kinds b 0)) (λ b. part rankings (b * n) n)

abbrev pub invariant-loop-count : goal.invariant-loop-count
invariant-loop-count l =
    Kept l.count × (l.count.gone.outs + 2 ≤ l.n)
    × (plain_count l.n (ranked l.rankings l.kinds l.n l.k) ≡ count_from l.n (ranked l.rankings l.kinds l.n l.k) (l.n - l.count.gone.outs) (standing_of l.n l.count))
    × (length (ranked l.rankings l.kinds l.n l.k) ≡ l.counted)

abbrev pub decreases-loop-count : goal.decreases-loop-count
decreases-loop-count l = l.n - l.count.gone.outs
