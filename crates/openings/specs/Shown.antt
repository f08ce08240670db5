-- What is shown of the pairs of a matrix, counted through by rows.
use Rattle.std.specs.Prelude.{ℕ, ◌+◌, ◌*◌, ◌/◌, ◌%◌, List, Bool, cond, eqb, get_or}
use Rattle.group.specs.Elements.{Parameters}
use Rattle.rules.specs.Bytes.{number4}
use Rattle.rules.specs.Audit.{pair_opens}

-- the t-th pair opens to the t-th exponent, and to 1 in the column of the process shown for its row
unfoldable pub opens_at : (s : List ℕ) → Parameters → (n pairs shown t : ℕ) → Bool
opens_at s g n pairs shown t =
    pair_opens g (number4 s (pairs + 8 * t)) (number4 s (pairs + 8 * t + 4)) (number4 s (shown + 4 * t))
    (cond (eqb (get_or s (shown + 4 * (n * n) + t / n) 0) (t % n + 1)) 1 0)
