-- What an audited BA record shows behind its proofs (02, L5): "An audited record ends with n² exponents x (4 bytes each) and the ranking (n bytes),
-- and every pair must open so."
use Rattle.std.specs.Prelude.{ℕ, ◌+◌, ◌*◌, Bool, cond, ◌&&◌, List, ltb, eqb, get_or}
use Rattle.numbers.specs.Below.{all_below}
use Rattle.group.specs.Arithmetic.{pow_mod}
use Rattle.group.specs.Elements.{Parameters}
use Rattle.rules.specs.Bytes.{number4, part}
use Rattle.rules.specs.Group.{paired}
use Rattle.rules.specs.Records.{counted_length}
use Rattle.rules.specs.Claims.{matrix_at}
use Rattle.rules.specs.Count.{is_ranking}
use Rattle.rules.specs.Header.{Header}

-- of 01: "Row i of a ballot matrix has v = 1 in the column of the process ranked i-th, else 0.": of a list of processes
abbrev pub value_of : (list : List ℕ) (i j : ℕ) → ℕ
value_of list i j = cond (eqb (get_or list i 0) (j + 1)) 1 0

-- the exponents, by rows, and the ranking that the record at a place shows
module _ (s : List ℕ) (n at : ℕ) where
  abbrev pub shown_exponent : (i j : ℕ) → ℕ
  shown_exponent i j = number4 s (at + counted_length n + 4 * (i * n + j))

  abbrev pub shown_ranking : List ℕ
  shown_ranking = part s (at + counted_length n + 4 * (n * n)) n

-- of 01: "A pair (b, Y) opens to x and v, .. if b = g0^x × g1^v and Y = g1^x."
abbrev pub pair_opens : Parameters → (b y x v : ℕ) → Bool
pair_opens g b y x v = eqb b (paired g x v) && eqb y (pow_mod g.p g.g1 x)

module _ (s : List ℕ) (h : Header) (at : ℕ) where
  -- 7: "x ≥ q stays 7"
  unfoldable pub exponents_good : Bool
  exponents_good = all_below h.n (λ i. all_below h.n (λ j. ltb (shown_exponent s h.n at i j) h.group.q))

  -- 18: "last n bytes that are no ranking or a pair that does not open so"
  unfoldable pub opens_as_shown : Bool
  opens_as_shown =
      is_ranking h.n (shown_ranking s h.n at)
      && all_below h.n (λ i. all_below h.n (λ j.
      pair_opens h.group ((matrix_at s h.n (at + 5)).b i j) ((matrix_at s h.n (at + 5)).y i j) (shown_exponent s h.n at i j) (value_of (shown_ranking s h.n at) i j)))
