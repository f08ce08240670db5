-- "The count in sentences", request L7 of 02: the text of a result with names. It is made of n, the names and the result alone; no board is read. Text in
-- quotation marks is 02's.
use Rattle.std.specs.Prelude.{ℕ, zero, suc, ◌+◌, ◌-◌, ◌/◌, ◌%◌, Bool, cond, not, List, [], ◌∷◌, ◌++◌, ltb, eqb, get_or, take}
use Prim.Native.Char.{code}
use Prim.Native.String.{String, [] as none, ◌∷◌ as ◌then◌}
use Rattle.numbers.specs.Below.{concat_below}
use Rattle.rules.specs.Count.{member, table_where, count_of, Result}

-- the bytes of words, each character's code
unfoldable pub bytes : String → List ℕ
bytes none = []
bytes (c then s) = code c ∷ bytes s

-- "Counts are decimal without leading zeros.": the digits of x; fuel: digits at the most
unfoldable pub decimal_by : (fuel x : ℕ) → List ℕ
decimal_by zero x = []
decimal_by (suc fuel) x = cond (ltb x 10) ((48 + x) ∷ []) (decimal_by fuel (x / 10) ++ ((48 + x % 10) ∷ []))

unfoldable pub decimal : (x : ℕ) → List ℕ
unfolding decimal_by
decimal x = decimal_by (suc x) x

-- one after another, with a separator between each two
unfoldable pub joined : (separator : List ℕ) → List (List ℕ) → List ℕ
joined separator [] = []
joined separator (x ∷ []) = x
joined separator (x ∷ y ∷ xs) = x ++ separator ++ joined separator (y ∷ xs)

-- "Round 2: "; rounds are counted from 0 here, and from 1 in the text
abbrev pub opening : (m : ℕ) → List ℕ
opening m = bytes "Round " ++ decimal (m + 1) ++ bytes ": "

-- "Skyr counts 5"
abbrev pub count_text : (name : List ℕ) (count : ℕ) → List ℕ
count_text name count = name ++ bytes " counts " ++ decimal count

-- "each process still in with its count, in number order": of n all but those gone out before the round; names i is that of process i + 1
abbrev pub count_texts : (names : ℕ → List ℕ) (n : ℕ) (gone counts : List ℕ) → List ℕ
count_texts names n gone counts =
    joined (bytes ", ") (table_where n (λ i. not (member (suc i) gone)) (λ i. count_text (names i) (count_of counts (suc i))))

-- "then who leaves or wins": "; Quark leaves.", and in the last round "; Skyr wins."; "each line ended by one line feed (byte 10)"
abbrev pub ending : (last : Bool) (name : List ℕ) → List ℕ
ending last name = bytes "; " ++ name ++ cond last (bytes " wins.") (bytes " leaves.") ++ (10 ∷ [])

-- who leaves in round m, or wins in the last
abbrev pub is_last : (r : Result) (m : ℕ) → Bool
is_last r m = eqb (m + 1) r.rounds

abbrev pub who_in : (r : Result) (m : ℕ) → ℕ
who_in r m = cond (is_last r m) r.winner (get_or r.order m 0)

module _ (n : ℕ) (names : ℕ → List ℕ) (r : Result) where
  unfoldable pub line : (m : ℕ) → List ℕ
  line m = opening m ++ count_texts names n (take m r.order) (get_or r.counts m []) ++ ending (is_last r m) (names (who_in r m - 1))

  -- "per round" a line
  unfoldable pub text : List ℕ
  text = concat_below r.rounds line
