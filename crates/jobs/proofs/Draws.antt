-- Where the draws of records lie.
use Prim.Native.Nat.{ℕ, zero, suc, ◌+◌, ◌*◌, ◌-◌, ◌≤◌, ◌<◌}
use mathlib.Core.Path.{◌≡◌, refl, sym}
use mathlib.Core.Bool.{true}
use native.Mathlib.Nat.{zero-add, suc-add, sub-zero, mul-le-mul_right}
use native.Mathlib.Numerals.{add-one}
use native.Mathlib.Omega.{arith}
use Rattle.numbers.specs.Below.{sum_below}
use Rattle.numbers.proofs.Sums.{sum_within}
use Rattle.numbers.proofs.Tests.{by_cases}
use Rattle.rules.specs.Records.{is_counted, records_of}
use Rattle.rules.proofs.Positions.{counted_has}
use Rattle.jobs.specs.Job.{record_draws, record_secrets, round_draws, draws_at}

-- a record's secrets are among its draws
pub secrets_within : (n kind m : ℕ) → record_secrets n kind m ≤ record_draws n kind m
unfolding record_draws records_of
secrets_within n kind zero = rw sub-zero (omega arith)
secrets_within n kind (suc m) = by_cases (is_counted kind) (λ c. rw c (omega arith)) (λ c. rw c (omega arith))

-- a record's rows, of n each
pub secrets_are : (n kind m : ℕ) → records_of kind m ≡ 1 → record_secrets n kind m ≡ (n - m) * n
secrets_are n kind m e = rw e (omega arith)

pub counted_within : (n kind m : ℕ) → is_counted kind ≡ true → (n - m) * n ≤ record_draws n kind m
counted_within n kind m c = omega (arith, secrets_within n kind m, secrets_are n kind m (counted_has kind m c))

module _ (n : ℕ) (kind : ℕ → ℕ) where
  pub round_more : (K m : ℕ) → round_draws n kind K (suc m) ≡ round_draws n kind K m + sum_below K (λ k. record_draws n (kind k) m)
  unfolding round_draws
  round_more K m = refl

  pub draws_within : (K m b : ℕ) → b < K → draws_at n kind K m b + record_draws n (kind b) m ≤ round_draws n kind K (suc m)
  draws_within K m b h = omega (arith, round_more K m, sum_within K b (λ k. record_draws n (kind k) m) h)

  -- where the draws of a round's first record start, those of the next record, and those of the next round
  pub draws_start : (K m : ℕ) → draws_at n kind K m 0 ≡ round_draws n kind K m
  unfolding sum_below
  draws_start K m = omega arith

  pub draws_step : (K m b : ℕ) → draws_at n kind K m (b + 1) ≡ draws_at n kind K m b + record_draws n (kind b) m
  unfolding sum_below
  draws_step K m b = rw (add-one b) (omega arith)

  pub draws_end : (K m b : ℕ) → b ≡ K → draws_at n kind K m b ≡ round_draws n kind K (m + 1)
  draws_end K m b e = rw (add-one m, e) (sym (round_more K m))

  -- the first pairs of a counted ballot are among its round's draws
  pub columns_within : (K m b : ℕ) → m + 1 ≤ n → b < K → is_counted (kind b) ≡ true → draws_at n kind K m b + n ≤ round_draws n kind K (suc m)
  columns_within K m b h l c =
      let u : 1 * n ≤ (n - m) * n = mul-le-mul_right n (omega arith) in
      omega (arith, draws_within K m b l, counted_within n (kind b) m c)

  -- rounds further on start further on
  draws_up : (K m d : ℕ) → round_draws n kind K m ≤ round_draws n kind K (d + m)
  unfolding round_draws
  draws_up K m zero = rw zero-add (omega arith)
  draws_up K m (suc d) = rw suc-add (omega (arith, draws_up K m d))

  pub draws_mono : (K m r : ℕ) → m ≤ r → round_draws n kind K m ≤ round_draws n kind K r
  draws_mono K m r h = let e : r - m + m ≡ r = omega arith in rw e at (draws_up K m (r - m))

  -- a record's draws are among those of the board's rounds
  pub draws_among : (K rounds m b : ℕ) → m < rounds → b < K → draws_at n kind K m b + record_draws n (kind b) m ≤ round_draws n kind K rounds
  draws_among K rounds m b r l = omega (arith, draws_within K m b l, draws_mono K (suc m) rounds r)
