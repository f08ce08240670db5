-- The walk over the records of a board: the test of each, of a round's, and of all.
use Prim.Native.Nat.{ℕ, ◌<◌}
use mathlib.Core.Path.{◌≡◌}
use mathlib.Core.Bool.{Bool, false}
use mathlib.Core.List.{List}
use Rattle.numbers.specs.Below.{all_below}
use Rattle.numbers.proofs.Tests.{all_fails}
use Rattle.jobs.specs.Job.{record_secrets, draws_at}
use Rattle.jobs.specs.Write.{different}

module _ (draws : List ℕ) (n : ℕ) (kind : ℕ → ℕ) (k : ℕ) where
  -- ballot b's record in round m repeats no x; and those of a round
  abbrev pub record_good : (m b : ℕ) → Bool
  record_good m b = different draws (draws_at n kind k m b) (record_secrets n (kind b) m)

  abbrev pub round_good : (m : ℕ) → Bool
  round_good m = all_below k (record_good m)

  -- a repeat ends it
  pub repeats : (rounds m b : ℕ) → m < rounds → b < k → record_good m b ≡ false → all_below rounds round_good ≡ false
  repeats rounds m b r l e = all_fails rounds m round_good r (all_fails k b (record_good m) l e)
