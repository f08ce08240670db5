-- "Records": marks and lengths.
use Rattle.std.specs.Prelude.{ℕ, zero, suc, ◌+◌, ◌*◌, ◌-◌, Bool, cond, ◌&&◌, List, [], ◌∷◌, eqb, get_or}

-- "Each record starts with a two-byte ASCII mark."; 02, L3: "A header of this model starts HF"
abbrev pub HF : List ℕ
HF = 72 ∷ 70 ∷ []

abbrev pub BA : List ℕ
BA = 66 ∷ 65 ∷ []

abbrev pub SH : List ℕ
SH = 83 ∷ 72 ∷ []

abbrev pub RT : List ℕ
RT = 82 ∷ 84 ∷ []

abbrev pub has_mark : (s : List ℕ) (at : ℕ) (mark : List ℕ) → Bool
has_mark s at mark = eqb (get_or s at 0) (get_or mark 0 0) && eqb (get_or s (at + 1) 0) (get_or mark 1 0)

-- the table's column "Bytes in all"
abbrev pub header_length : ℕ
header_length = 54

-- 02, L5: "BA gains a kind byte after its number: 0 counted, 1 audited."; that of the record at a place, and 0 where the board ends before it
abbrev pub kind_at : (s : List ℕ) (at : ℕ) → ℕ
kind_at s at = get_or s (at + 4) 0

abbrev pub is_counted : (kind : ℕ) → Bool
is_counted kind = eqb kind 0

abbrev pub is_audited : (kind : ℕ) → Bool
is_audited kind = eqb kind 1

-- of BA: counted; and what an audited one has more, "n² exponents x (4 bytes each) and the ranking (n bytes)"
abbrev pub counted_length : (n : ℕ) → ℕ
counted_length n = 5 + 40 * (n * n) + 32 * n

abbrev pub audit_length : (n : ℕ) → ℕ
audit_length n = 4 * (n * n) + n

-- "a record of another kind has the length of a counted one"
abbrev pub ballot_length : (n kind : ℕ) → ℕ
ballot_length n kind = counted_length n + cond (is_audited kind) (audit_length n) 0

-- of R rows
abbrev pub shift_length : (n R : ℕ) → ℕ
shift_length n R = 4 + 8 * (R * n) + (R + 1) * (28 + 12 * (R * n))

abbrev pub sheet_length : (n : ℕ) → ℕ
sheet_length n = 4 + 6 * n

-- "A board is HD, K BA numbered 1 to K, RT; each further round is K SH, numbered alike, then RT."; 02, L5: an audited ballot "has no SH".
-- What a ballot of a kind has in round m: how many records, and their length, "R = n−m+1 rows" where rounds are counted from 1
unfoldable pub records_of : (kind m : ℕ) → ℕ
records_of kind zero = 1
records_of kind (suc m) = cond (is_counted kind) 1 0

unfoldable pub record_length : (n kind m : ℕ) → ℕ
record_length n kind zero = ballot_length n kind
record_length n kind (suc m) = cond (is_counted kind) (shift_length n (n - suc m)) 0

-- where the pairs of a ballot's record in round m start: behind mark and number, and in BA the kind
abbrev pub pairs_from : (m at : ℕ) → ℕ
pairs_from zero at = at + 5
pairs_from (suc m) at = at + 4
