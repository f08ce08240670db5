-- Where the records of a board stand, by the kinds of its ballots: this measures the writer's board.
use Prim.Native.Nat.{ℕ, zero, suc, ◌+◌, ◌≤◌, ◌<◌}
use mathlib.Core.Path.{◌≡◌, refl, ap}
use mathlib.Core.List.{List}
use native.Mathlib.Omega.{arith}
use Rattle.numbers.specs.Below.{sum_below}
use Rattle.numbers.proofs.Sums.{sum_same}
use Rattle.rules.specs.Records.{record_length}
use Rattle.rules.specs.Header.{Header}
use Rattle.rules.specs.Check.{Position, place, kind}
use Rattle.rules.proofs.Positions.{position_first, place_record, place_round}
use Rattle.jobs.specs.Job.{round_at}

-- the bytes ahead of ballot k's record in round m
abbrev pub record_at : (n : ℕ) (kind : ℕ → ℕ) (K m k : ℕ) → ℕ
record_at n kind K m k = round_at n kind K m + sum_below k (λ i. record_length n (kind i) m)

module _ (s : List ℕ) (h : Header) where
  within : (m k : ℕ) → place s h m k ≡ place s h m 0 + sum_below k (λ i. record_length h.n (kind s h i) m)
  unfolding sum_below
  within m zero = omega arith
  within m (suc k) = omega (arith, place_record s h m k, within m k)

  pub round_is : (m : ℕ) → place s h m 0 ≡ round_at h.n (kind s h) h.K m
  unfolding round_at
  round_is zero = ap (λ (w : Position). w.place) (position_first s h)
  round_is (suc m) = omega (arith, place_round s h m, within m h.K, round_is m)

  pub place_is : (m k : ℕ) → place s h m k ≡ record_at h.n (kind s h) h.K m k
  place_is m k = omega (arith, within m k, round_is m)

-- which depends on the kinds of the ballots alone
module _ (n K : ℕ) (f g : ℕ → ℕ) (same : (k : ℕ) → k < K → f k ≡ g k) where
  lengths_same : (m k : ℕ) → k ≤ K → sum_below k (λ i. record_length n (f i) m) ≡ sum_below k (λ i. record_length n (g i) m)
  lengths_same m k l = sum_same k _ _ (λ i b. ap (λ (kind : ℕ). record_length n kind m) (same i (omega arith)))

  pub round_same : (m : ℕ) → round_at n f K m ≡ round_at n g K m
  unfolding round_at
  round_same zero = refl
  round_same (suc m) = omega (arith, round_same m, lengths_same m K (omega arith))

  pub record_same : (m k : ℕ) → k ≤ K → record_at n f K m k ≡ record_at n g K m k
  record_same m k l = omega (arith, round_same m, lengths_same m k l)
