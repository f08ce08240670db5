use Prim.Native.Nat.{ℕ, suc, ◌*◌, ◌≤◌, ◌<◌}
use mathlib.Core.Path.{◌≡◌}
use lib.ListN.{length, get_or}
use Rattle.rules.specs.Bytes.{part}
use Rattle.rules.specs.Records.{is_counted}
use Rattle.rules.specs.Count.{votes_for, table_where}
use Rattle.count.specs.State.{list_of}
use Rattle.plain.proofs.votes.tally.Given as goal

abbrev pub invariant-loop-b : goal.invariant-loop-b
invariant-loop-b l =
    (length l.counts ≡ 8) × ((i : ℕ) → i < 8 → get_or l.counts i 0 ≤ l.b)
    × ((i : ℕ) → i < 8 → get_or l.counts i 0 ≡ votes_for l.n (list_of l.gone) (table_where l.b (λ d. is_counted (get_or l.kinds d 0)) (λ d. part l.rankings (d * l.n) l.n)) (suc i))
