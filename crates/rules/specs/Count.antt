-- "Rounds" and "The plain count": the standing count, who leaves and who wins (02, "Equal lowest counts"), and the count of plain rankings.
use Prim.Native.Nat.{ℕ, zero, suc, ◌+◌, ◌*◌, ◌-◌}
use Rattle.std.specs.Prelude.{Bool, false, ◌&&◌, ◌||◌, List, [], ◌∷◌, ◌++◌, leb, length, get_or}
use Rattle.std.proofs.Math.Bool.{cond, not}
use Rattle.std.proofs.Math.Dec.{ltb, eqb}
use Rattle.numbers.specs.Below.{all_below, any_below}

unfoldable pub member : ℕ → List ℕ → Bool
member c [] = false
member c (x ∷ xs) = eqb c x || member c xs

-- f 0, .., f (k - 1)
unfoldable pub table {ℓ} : {A : Type ℓ} → ℕ → (ℕ → A) → List A
table zero f = []
table (suc k) f = table k f ++ (f k ∷ [])

-- those of f 0, .., f (k - 1) that a test picks
unfoldable pub table_where {ℓ} : {A : Type ℓ} → ℕ → (ℕ → Bool) → (ℕ → A) → List A
table_where zero p f = []
table_where (suc k) p f = table_where k p f ++ cond (p k) (f k ∷ []) []

-- "A ranking lists the n numbers, best first."
unfoldable pub is_ranking : (n : ℕ) → List ℕ → Bool
unfolding member
is_ranking n r = eqb (length r) n && all_below n (λ i. member (suc i) r)

-- the count of process c among the counts of a round, and in round m + 1
abbrev pub count_of : List ℕ → ℕ → ℕ
count_of counts c = get_or counts (c - 1) 0

abbrev pub count_in : (sheets : List (List ℕ)) (m c : ℕ) → ℕ
count_in sheets m c = count_of (get_or sheets m []) c

-- "fewer in the latest .. round where they differ; equal ones left after that round are compared in the one before it, and so on":
-- process a had fewer than b, by the counts of the rounds m, m - 1, .., 1, one after another
unfoldable pub fewer : (sheets : List (List ℕ)) (m a b : ℕ) → Bool
fewer sheets zero a b = false
fewer sheets (suc m) a b =
    cond (eqb (count_in sheets m a) (count_in sheets m b)) (fewer sheets m a b) (ltb (count_in sheets m a) (count_in sheets m b))

-- "Its state is the round m, the processes still in, those gone out, in order, and the counts of each round so far":
-- the sheets so far tell the round, and those gone out tell who is still in
pub record Standing : Type 0 where
  pub gone : List ℕ
  pub sheets : List (List ℕ)

-- "at the start m = 1, all n are in, none is out and there are no counts"
abbrev pub start : Standing
start = record { gone = []; sheets = [] }

-- m, from 1
abbrev pub round_number : Standing → ℕ
round_number st = length st.sheets + 1

unfoldable pub still_in : (n : ℕ) (gone : List ℕ) (c : ℕ) → Bool
still_in n gone c = leb 1 c && leb c n && not (member c gone)

-- the best of 1 .. i still in: by rising number, each one takes the place of the best so far where it is better; 0 where none is in
unfoldable pub pick : (gone : List ℕ) (better : (best c : ℕ) → Bool) (i : ℕ) → ℕ
unfolding member
pick gone better zero = 0
pick gone better (suc i) =
    cond (member (suc i) gone) (pick gone better i)
    (cond (eqb (pick gone better i) 0 || better (pick gone better i) (suc i)) (suc i) (pick gone better i))

module _ (st : Standing) (counts : List ℕ) where
  -- the order of processes: by this round's counts, then by those of the latest earlier round, down to round 1
  abbrev pub behind : (a b : ℕ) → Bool
  behind a b = fewer (st.sheets ++ (counts ∷ [])) (round_number st) a b

  -- "Among those with the lowest count, the one goes out that had fewer in the latest earlier round where they differ; ..
  -- Only if all rounds agree does the highest number go out."
  abbrev pub lowest : (i : ℕ) → ℕ
  lowest i = pick st.gone (λ best c. not (behind best c)) i

  -- "The winner among equal highest is found the same way, more being better, lowest number last."
  abbrev pub highest : (i : ℕ) → ℕ
  highest i = pick st.gone (λ best c. behind best c) i

module _ (n : ℕ) (st : Standing) (counts : List ℕ) where
  -- "a process still in has 2 × count > K"; 02, L5: of C counted ballots, since "majority .. over counted ballots"
  unfoldable pub majority : (C : ℕ) → Bool
  unfolding any_below member
  majority C = any_below n (λ i. not (member (suc i) st.gone) && ltb C (2 * count_of counts (suc i)))

  -- "A round closes the board if a process still in has 2 × count > K, or if m = n−1."
  unfoldable pub closes : (C : ℕ) → Bool
  unfolding majority
  closes C = eqb (round_number st) (n - 1) || majority C

  abbrev pub leaves : ℕ
  leaves = lowest st counts n

  abbrev pub wins : ℕ
  wins = highest st counts n

  -- "Each sheet takes the standing count and hands back the next."
  abbrev pub next : Standing
  next = record { gone = st.gone ++ (leaves ∷ []); sheets = st.sheets ++ (counts ∷ []) }

-- "each ranking counts one for the first process on it that is still in"; 0 where there is none
unfoldable pub first_in : (n : ℕ) (gone ranking : List ℕ) → ℕ
unfolding still_in
first_in n gone [] = 0
first_in n gone (c ∷ cs) = cond (still_in n gone c) c (first_in n gone cs)

unfoldable pub votes_for : (n : ℕ) (gone : List ℕ) → List (List ℕ) → ℕ → ℕ
unfolding first_in
votes_for n gone [] c = 0
votes_for n gone (r ∷ rs) c = cond (eqb (first_in n gone r) c) 1 0 + votes_for n gone rs c

unfoldable pub counts_of : (n : ℕ) (rankings : List (List ℕ)) (gone : List ℕ) → List ℕ
unfolding votes_for table
counts_of n rankings gone = table n (λ i. votes_for n gone rankings (suc i))

-- "The result is the number of rounds, the n counts of each round, the last included, the order of going out and the winner."
pub record Result : Type 0 where
  pub rounds : ℕ
  pub counts : List (List ℕ)
  pub order : List ℕ
  pub winner : ℕ

-- the result where a standing count's round, with these counts, is the last
abbrev pub ended : (n : ℕ) → Standing → List ℕ → Result
ended n st counts = record { rounds = round_number st; counts = st.sheets ++ (counts ∷ []); order = st.gone; winner = wins n st counts }

module _ (n : ℕ) (rankings : List (List ℕ)) where
  -- fuel: rounds at the most
  unfoldable pub count_from : (fuel : ℕ) → Standing → Result
  unfolding counts_of closes pick fewer
  count_from zero st = ended n st (counts_of n rankings st.gone)
  count_from (suc fuel) st =
      cond (closes n st (counts_of n rankings st.gone) (length rankings))
      (ended n st (counts_of n rankings st.gone))
      (count_from fuel (next n st (counts_of n rankings st.gone)))

  -- "It is fed n and a list of rankings and reads no board."
  unfoldable pub plain_count : Result
  unfolding count_from
  plain_count = count_from n start
