-- The plain count, round by round, as the code's standing count goes.
use Prim.Native.Nat.{ℕ, suc, ◌+◌, ◌-◌, ◌≤◌, ◌<◌}
use mathlib.Core.Path.{◌≡◌, ◌∙◌}
use mathlib.Core.Bool.{true, false}
use mathlib.Core.List.{List}
use mathlib.Core.Logic.{⊎_elim}
use native.Mathlib.Nat.{eq-or-lt_of_le}
use native.Mathlib.Numerals.{add-one}
use native.Mathlib.Omega.{arith}
use lib.ListN.{length}
use Rattle.rules.specs.Records.{record_length, sheet_length}
use Rattle.numbers.specs.Below.{sum_below}
use Rattle.rules.specs.Count.{next, ended, closes, counts_of, count_from, plain_count}
use Rattle.jobs.specs.Job.{round_draws, record_draws, round_at}
use Rattle.count.specs.declared.Count.{Count}
use Rattle.count.specs.State.{standing_of, list_of}

module _ (n C : ℕ) (rs : List (List ℕ)) (c : Count) (m : ℕ) (cs : List ℕ) (many : length rs ≡ C) (low : m < n)
    (w : plain_count n rs ≡ count_from n rs (n - m) (standing_of n c))
    (e : cs ≡ counts_of n rs (list_of c.gone)) where
  fuel : n - m ≡ suc (n - (m + 1))
  fuel = omega arith

  pub count_goes : closes n (standing_of n c) cs C ≡ false → plain_count n rs ≡ count_from n rs (n - (m + 1)) (next n (standing_of n c) cs)
  unfolding count_from standing_of
  count_goes h = w ∙ rw (fuel, ← e, many, h)

  pub count_ends : closes n (standing_of n c) cs C ≡ true → plain_count n rs ≡ ended n (standing_of n c) cs
  unfolding count_from standing_of
  count_ends h = w ∙ rw (fuel, ← e, many, h)

module _ (n : ℕ) (kind : ℕ → ℕ) (K m d r : ℕ) where
  pub draws_more : d ≡ round_draws n kind K m → r ≡ sum_below K (λ k. record_draws n (kind k) m) → d + r ≡ round_draws n kind K (m + 1)
  unfolding round_draws
  draws_more e h = rw (add-one, e, h)

  pub length_more : (s : ℕ) → d ≡ round_at n kind K m → r ≡ sum_below K (λ k. record_length n (kind k) m) → s ≡ sheet_length n → d + (r + s) ≡ round_at n kind K (m + 1)
  unfolding round_at
  length_more s e h t = rw (add-one, e, h, t) (omega arith)

pub far : (m n : ℕ) → m + 2 ≤ n → (m + 1 ≡ n - 1 → ⊥) → m + 1 + 2 ≤ n
far m n h t = ⊎_elim (λ (e : m + 2 ≡ n). absurd (t (omega arith))) (λ (l : m + 2 < n). omega arith) (eq-or-lt_of_le h)
