use Prim.Native.Nat.{ℕ, ◌+◌, ◌*◌, ◌<◌}
use mathlib.Core.Path.{◌≡◌}
use mathlib.Core.Bool.{true}
use lib.ListN.{length, take}
use Rattle.numbers.specs.Below.{all_below}
use Rattle.rules.specs.Bytes.{number2, number4}
use Rattle.rules.specs.Count.{table}
use Rattle.sheets.specs.Sheets.{exponent_of, count_good}
use Rattle.sheets.proofs.sheet_fields.Given as goal

abbrev pub invariant-loop-i : goal.invariant-loop-i
invariant-loop-i l =
    (l.place ≡ l.at + 4 + 6 * l.i) × (length l.counts ≡ 8) × (length l.s ≡ 8) × (all_below l.i (count_good l.board l.most l.h.setup.group.q l.at) ≡ true)
    × (take l.i l.counts ≡ table l.i (λ i. number2 l.board (l.at + 4 + 6 * i))) × ((j : ℕ) → j < l.i → exponent_of l.s j ≡ number4 l.board (l.at + 6 + 6 * j))
