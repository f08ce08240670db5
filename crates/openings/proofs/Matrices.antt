-- What an audited record shows, by rows and columns.
use Prim.Native.Nat.{ℕ, ◌+◌, ◌*◌, ◌/◌, ◌%◌, ◌<◌}
use mathlib.Core.Path.{◌≡◌, ◌∙◌}
use mathlib.Core.List.{List}
use native.Mathlib.Nat.{add-zero, mul-add-div_right, mul-add-mod_self_right, div-eq_of_lt, mod-eq_of_lt}
use lib.ListN.{get_or, drop}
use lib.Seq.{get_or-take, get_or-drop}
use Rattle.numbers.specs.Below.{all_below}
use Rattle.numbers.proofs.Tests.{all_grid, all_same}
use Rattle.group.specs.Elements.{Parameters}
use Rattle.rules.specs.Bytes.{part, number4}
use Rattle.rules.specs.Claims.{matrix_at}
use Rattle.rules.specs.Audit.{value_of, pair_opens}
use Rattle.openings.specs.Shown.{opens_at}

part_at : (s : List ℕ) (at n i : ℕ) → i < n → get_or (part s at n) i 0 ≡ get_or s (at + i) 0
part_at s at n i l = get_or-take n (drop at s) i 0 l ∙ get_or-drop at s i 0

-- the pairs of a matrix, counted through by rows
pub matrix_shown : (s : List ℕ) (g : Parameters) (n pairs shown : ℕ) → 0 < n →
    all_below n (λ i. all_below n (λ j.
    pair_opens g ((matrix_at s n pairs).b i j) ((matrix_at s n pairs).y i j) (number4 s (shown + 4 * (i * n + j))) (value_of (part s (shown + 4 * (n * n)) n) i j)))
    ≡ all_below (n * n) (opens_at s g n pairs shown)
unfolding matrix_at opens_at
matrix_shown s g n pairs shown some =
    all_same n _ _ (λ i k. all_same n _ (λ j. opens_at s g n pairs shown (i * n + j)) (λ j l.
    let d : (i * n + j) / n ≡ i = mul-add-div_right some i j ∙ rw (div-eq_of_lt l) (add-zero i) in
    let m : (i * n + j) % n ≡ j = mul-add-mod_self_right i n j ∙ mod-eq_of_lt l in
    rw (d, m, part_at s (shown + 4 * (n * n)) n i k)))
    ∙ all_grid n n (opens_at s g n pairs shown)
