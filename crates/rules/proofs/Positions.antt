-- Laws of the positions that a board is read from.
use Prim.Native.Nat.{ℕ, zero, suc, ◌+◌, ◌*◌, ◌-◌, ◌≤◌, ◌<◌}
use mathlib.Core.Path.{◌≡◌, refl, ap, ◌∙◌}
use mathlib.Core.Bool.{true, cond}
use mathlib.Core.List.{List}
use mathlib.Core.Logic.{⊎_elim}
use native.Mathlib.Nat.{eq-or-lt_of_le, le_of_suc-le-suc}
use native.Mathlib.Omega.{arith}
use Rattle.numbers.specs.Below.{sum_below, prod_below}
use Rattle.numbers.proofs.Tests.{by_cases}
use Rattle.numbers.proofs.Sums.{few_picked}
use Rattle.rules.specs.Records.{is_counted, records_of, record_length, sheet_length, pairs_from}
use Rattle.rules.specs.Claims.{Matrix}
use Rattle.rules.specs.Sheet.{Tally, no_row, with_row}
use Rattle.rules.specs.Header.{Header}
use Rattle.rules.specs.Check.{Position, past_header, past_record, past_sheet, ballots_read, shifts_read, position, place, pairs_place, record_number, matrix, kind, counted_below, counted}

-- who has a record in a round: every ballot in the first, in each further one the counted ones
pub has_first : (kind : ℕ) → records_of kind 0 ≡ 1
unfolding records_of
has_first kind = refl

pub counted_has : (kind m : ℕ) → is_counted kind ≡ true → records_of kind m ≡ 1
unfolding records_of
counted_has kind zero c = refl
counted_has kind (suc m) c = rw c

pub has_counted : (kind m : ℕ) → records_of kind (suc m) ≡ 1 → is_counted kind ≡ true
unfolding records_of
has_counted kind m e = by_cases (is_counted kind) (λ c. c) (λ c. absurd (omega (arith, rw c at e)))

-- the record of a counted ballot holds its pairs
pub holds_pairs : (n kind m at : ℕ) → is_counted kind ≡ true → pairs_from m at + 8 * ((n - m) * n) ≤ at + record_length n kind m
unfolding record_length
holds_pairs n kind zero at c = let e : n - 0 ≡ n = omega arith in rw e (omega arith)
holds_pairs n kind (suc m) at c = rw c (omega arith)

module _ (s : List ℕ) (h : Header) where
  -- the first round starts behind the header, and each further one behind a sheet
  pub position_first : position s h 0 0 ≡ past_header
  unfolding position ballots_read
  position_first = refl

  pub position_round : (m : ℕ) → position s h (suc m) 0 ≡ past_sheet s h (position s h m h.K)
  unfolding position shifts_read
  position_round m = refl

  -- a ballot's record stands where that of the ballot before it ends
  pub position_record : (m k : ℕ) → position s h m (suc k) ≡ past_record s h m (kind s h k) (position s h m k)
  unfolding position ballots_read shifts_read
  position_record zero k = refl
  position_record (suc m) k = refl

  pub place_record : (m k : ℕ) → place s h m (suc k) ≡ place s h m k + record_length h.n (kind s h k) m
  place_record m k = ap (λ (w : Position). w.place) (position_record m k)

  pub place_round : (m : ℕ) → place s h (suc m) 0 ≡ place s h m h.K + sheet_length h.n
  place_round m = ap (λ (w : Position). w.place) (position_round m)

  -- so it ends no later than another of its round, behind it, stands
  pub place_later : (m k j : ℕ) → k < j → place s h m k + record_length h.n (kind s h k) m ≤ place s h m j
  place_later m k zero l = absurd (omega arith)
  place_later m k (suc j) l =
      ⊎_elim (λ (e : k ≡ j). rw (e, place_record m j) (omega arith)) (λ (b : k < j). omega (arith, place_record m j, place_later m k j b))
      (eq-or-lt_of_le (le_of_suc-le-suc l))

  -- and the pairs of a counted ballot's stand before the next round
  pub earlier_fits : (m k : ℕ) → k < h.K → is_counted (kind s h k) ≡ true → pairs_place s h m k + 8 * ((h.n - m) * h.n) ≤ place s h (suc m) 0
  earlier_fits m k l c =
      omega (arith, place_later m k h.K l, place_round m, holds_pairs h.n (kind s h k) m (place s h m k) c)

  -- a round starts behind all rounds before it, and its records stand behind its start
  pub round_within : (m k : ℕ) → place s h m 0 ≤ place s h m k
  round_within m zero = omega arith
  round_within m (suc k) = omega (arith, round_within m k, place_record m k)

  pub place_up : (m k j : ℕ) → k ≤ j → place s h m k ≤ place s h m j
  place_up m k j l = ⊎_elim (λ (e : k ≡ j). rw e (omega arith)) (λ (b : k < j). omega (arith, place_later m k j b)) (eq-or-lt_of_le l)

  pub round_later : (m : ℕ) → place s h 0 h.K ≤ place s h (suc m) 0
  round_later zero = omega (arith, place_round 0)
  round_later (suc m) = omega (arith, round_later m, place_round (suc m), round_within (suc m) h.K)

  -- each record has the next number, and each sheet
  number_step : (m k : ℕ) → record_number s h m (suc k) ≡ record_number s h m k + records_of (kind s h k) m
  number_step m k = ap (λ (w : Position). w.number) (position_record m k)

  pub number_next : (m : ℕ) → record_number s h (suc m) 0 ≡ record_number s h m h.K + 1
  number_next m = ap (λ (w : Position). w.number) (position_round m)

  -- so numbers rise: within a round, past a record, and from one round to another
  pub number_up : (m j k : ℕ) → j ≤ k → record_number s h m j ≤ record_number s h m k
  number_up m j zero l = let e : j ≡ 0 = omega arith in rw e (omega arith)
  number_up m j (suc k) l =
      ⊎_elim (λ (e : j ≡ suc k). rw e (omega arith)) (λ (b : j < suc k). omega (arith, number_step m k, number_up m j k (le_of_suc-le-suc b))) (eq-or-lt_of_le l)

  pub number_past : (m j k : ℕ) → j < k → record_number s h m j + records_of (kind s h j) m ≤ record_number s h m k
  number_past m j k l = omega (arith, number_step m j, number_up m (suc j) k l)

  pub number_rounds : (r j m k : ℕ) → r < m → j ≤ h.K → record_number s h r j < record_number s h m k
  number_rounds r j zero k l b = absurd (omega arith)
  number_rounds r j (suc m) k l b =
      let on : record_number s h m h.K < record_number s h (suc m) k = omega (arith, number_next m, number_up (suc m) 0 k (omega arith)) in
      ⊎_elim
      (λ (e : r ≡ m). rw e (omega (arith, number_up m j h.K b)))
      (λ (c : r < m). omega (arith, number_rounds r j m h.K c b))
      (eq-or-lt_of_le (le_of_suc-le-suc l))

  -- the records are K + 1 in the first round, C + 1 in each further one, and the header
  pub number_first : (k : ℕ) → record_number s h 0 k ≡ 1 + k
  unfolding records_of
  number_first zero = ap (λ (w : Position). w.number) position_first
  number_first (suc k) = omega (arith, number_step 0 k, number_first k)

  number_in : (m k : ℕ) → record_number s h (suc m) k ≡ record_number s h (suc m) 0 + counted_below s h k
  unfolding records_of sum_below
  number_in m zero = omega arith
  number_in m (suc k) = omega (arith, number_step (suc m) k, number_in m k)

  number_round : (m : ℕ) → record_number s h (suc m) 0 ≡ 2 + h.K + m * (counted s h + 1)
  number_round zero = omega (arith, number_next 0, number_first h.K)
  number_round (suc m) = omega (arith, number_next (suc m), number_in m h.K, number_round m)

  pub number_later : (m k : ℕ) → record_number s h (suc m) k ≡ 2 + h.K + m * (counted s h + 1) + counted_below s h k
  number_later m k = omega (arith, number_in m k, number_round m)

  -- no more ballots are counted than there are
  pub few_counted : (k : ℕ) → counted_below s h k ≤ k
  few_counted k = few_picked k (λ i. is_counted (kind s h i))

  -- a round starts with no product
  pub no_row_lem : (m : ℕ) → (position s h m 0).tally ≡ no_row
  no_row_lem zero = ap (λ (w : Position). w.tally) position_first
  no_row_lem (suc m) = ap (λ (w : Position). w.tally) (position_round m)

  -- and the products carried are those of the first rows of the counted ballots: of either side of their pairs
  products : (product : Tally → ℕ → ℕ) (side : Matrix → ℕ → ℕ → ℕ) → ((i : ℕ) → product no_row i ≡ 1) → ((T : Tally) (M : Matrix) (i : ℕ) → product (with_row T M) i ≡ product T i * side M 0 i) →
      (m k i : ℕ) → product (position s h m k).tally i ≡ prod_below k (λ j. cond (is_counted (kind s h j)) (side (matrix s h m j) 0 i) 1)
  unfolding prod_below
  products product side none more m zero i = rw (no_row_lem m) (none i)
  products product side none more m (suc k) i =
      by_cases (is_counted (kind s h k))
      (λ c. rw (position_record m k, c) (more _ _ i ∙ ap (λ (t : ℕ). t * side (matrix s h m k) 0 i) (products product side none more m k i)))
      (λ c. rw (position_record m k, c) (omega (arith, products product side none more m k i)))

  pub tally_b : (m k i : ℕ) → (position s h m k).tally.b i ≡ prod_below k (λ j. cond (is_counted (kind s h j)) ((matrix s h m j).b 0 i) 1)
  tally_b = products (λ T. T.b) (λ M. M.b) (λ _. refl) (λ _ _ _. refl)

  pub tally_y : (m k i : ℕ) → (position s h m k).tally.y i ≡ prod_below k (λ j. cond (is_counted (kind s h j)) ((matrix s h m j).y 0 i) 1)
  tally_y = products (λ T. T.y) (λ M. M.y) (λ _. refl) (λ _ _ _. refl)
