-- What the functions tell.
use Rattle.std.specs.Prelude.{ℕ, ◌<◌, ◌≡◌, Bool, true, cond, List, eqb, get_or, length}
use Rattle.rules.specs.Count.{table}
use Rattle.rules.specs.Receipts.{digest_count, digest_at, same}

-- the digests, each by itself
pub record Listed (digests : List ℕ) (list : List (List ℕ)) : Type 0 where
  pub long : length list ≡ digest_count digests
  pub at : (i : ℕ) (d : List ℕ) → i < digest_count digests → get_or list i d ≡ digest_at digests i

-- a place keeps the number that it has; one that has none gets the ballot's number where the digest is d
abbrev pub number_with : (hit : Bool) (number old : ℕ) → ℕ
number_with hit number old = cond (eqb old 0) (cond hit number 0) old

-- each place that has no number gets this one
pub record Filled (number : ℕ) (before after : List ℕ) : Type 0 where
  pub long : length after ≡ length before
  pub at : (i : ℕ) → i < length before → get_or after i 0 ≡ number_with true number (get_or before i 0)

unfoldable pub entered : (digests d : List ℕ) (number : ℕ) (numbers : List ℕ) → List ℕ
entered digests d number numbers = table (digest_count digests) (λ i. number_with (same d (digest_at digests i)) number (get_or numbers i 0))
