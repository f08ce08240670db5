-- What the code's claims say in the rules, and what they need.
use Rattle.std.specs.Prelude.{ℕ, ◌+◌, ◌*◌, ◌-◌, ◌≤◌, ◌<◌, ◌≡◌, List, length, get_or}
use Rattle.group.specs.Arithmetic.{pow_mod}
use Rattle.group.specs.Elements.{Parameters}
use Rattle.group.specs.declared.Element.{Element}
use Rattle.rules.specs.Bytes.{number4}
use Rattle.rules.specs.Proofs as said
use Rattle.rules.specs.Claims.{matrix_at, entry_claim, line_claim, shift_claim}
use Rattle.statements.specs.declared.claims.Struck.{Struck}
use Rattle.statements.specs.declared.claims.Claim.{Claim}
use Rattle.statements.specs.declared.claims.Claim.TheVariants.{Entry, Line, Shift}

-- what a claim says of branch l, statement k: the pairs and the matrices are those at its places
unfoldable pub claim_of : (s : List ℕ) → Parameters → Claim → (l k : ℕ) → said.Statement
claim_of s g (Entry at) l k = entry_claim g (number4 s at) (number4 s (at + 4)) l
claim_of s g (Line at stride count) l k = line_claim g count (λ j. number4 s (at + stride * j)) (λ j. number4 s (at + 4 + stride * j))
claim_of s g (Shift m) l k = shift_claim g m.n (matrix_at s m.n m.before) (matrix_at s m.n m.new) m.a l k

-- the inverses of the words of a matrix, one after another
abbrev pub Inverted : (s : List ℕ) (p q at words : ℕ) (inverses : List Element) → Type 0
Inverted s p q at words inverses = (u : ℕ) → u < words → (get_or inverses u (record { 0 = 0 })).0 ≡ pow_mod p (number4 s (at + 4 * u)) (q - 1)

pub record InverseTable (s : List ℕ) (p q at words : ℕ) (inverses : List Element) : Type 0 where
  pub long : length inverses ≡ 128
  pub inverted : Inverted s p q at words inverses
  pub zeros : (u : ℕ) → words ≤ u → (get_or inverses u (record { 0 = 0 })).0 ≡ 0

pub record Shifts (s : List ℕ) (inverses : List Element) (g : Parameters) (m : Struck) (l k : ℕ) : Type 0 where
  pub column : m.a < m.n
  pub branch : l ≤ m.rows
  pub statement : k < 2 + m.rows * m.n
  pub earlier : m.before + 8 * ((m.rows + 1) * m.n) ≤ length s
  pub later : m.new + 8 * (m.rows * m.n) ≤ length s
  pub long_enough : 2 * ((m.rows + 1) * m.n) ≤ length inverses
  pub inverted : Inverted s g.p g.q m.before (2 * ((m.rows + 1) * m.n)) inverses

-- a run of pairs, and at least one
pub record Run (s : List ℕ) (at stride count : ℕ) : Type 0 where
  pub some : 0 < count
  pub fits : (j : ℕ) → j < count → at + stride * j + 8 ≤ length s

-- the pairs that a claim speaks of stand on the board, and the inverses that it needs are there
unfoldable pub Within : (s : List ℕ) (inverses : List Element) → Parameters → Claim → (l k : ℕ) → Type 0
Within s inverses g (Entry at) l k = at + 8 ≤ length s
Within s inverses g (Line at stride count) l k = Run s at stride count
Within s inverses g (Shift m) l k = Shifts s inverses g m l k
