-- What the text of a result tells (02, L7): "Two results with names print the same text only if names, counts of processes still in, order and winner agree; the
-- proof is over the sentence form, for every number of rounds." Rounds count from 0 here.
use Rattle.std.specs.Prelude.{ℕ, ◌+◌, ◌*◌, ◌-◌, ◌≤◌, ◌<◌, ◌≡◌, true, List, [], ◌∷◌, length, get_or, take}
use Rattle.rules.specs.Count.{count_in, still_in, Result, plain_count}
use Rattle.rules.specs.Header.{header}
use Rattle.rules.specs.Check.{accepted, check_board}
use Rattle.rules.specs.Openings.{Opens}
use Rattle.rules.specs.Sentences.{decimal, text}
use Rattle.rules.specs.Notice.{is_letter, name_of, names_good, board_result, text_told, text_outcome}
use Rattle.whole.specs.ThirdDemand.{counted_rankings}

-- ---- numbers
-- what digits come to, read from the front, behind those that came to `so far`
unfoldable pub read_from : (sofar : ℕ) → List ℕ → ℕ
read_from sofar [] = sofar
read_from sofar (d ∷ ds) = read_from (sofar * 10 + (d - 48)) ds

-- digits alone, one at least, and no leading zero: a 0 stands first only where it stands alone
pub record IsDecimal (ds : List ℕ) : Type 0 where
  pub some : 1 ≤ length ds
  pub low : (i : ℕ) → i < length ds → 48 ≤ get_or ds i 0
  pub high : (i : ℕ) → i < length ds → get_or ds i 0 ≤ 57
  pub no_zero_first : 2 ≤ length ds → 49 ≤ get_or ds 0 0

-- ---- the premises
-- "Names are 1 to 20 letters A to Z and a to z, one per process, all different"
pub record GoodNames (n : ℕ) (names : ℕ → List ℕ) : Type 0 where
  pub some : (i : ℕ) → i < n → 1 ≤ length (names i)
  pub few : (i : ℕ) → i < n → length (names i) ≤ 20
  pub letters : (i d : ℕ) → i < n → d < length (names i) → is_letter (get_or (names i) d 0) ≡ true
  pub different : (i j : ℕ) → i < n → j < n → names i ≡ names j → i ≡ j

-- a result of n processes; no limit is set to rounds, n or counts
pub record IsResult (n : ℕ) (r : Result) : Type 0 where
  -- as many rounds as counts, and one goes out in each but the last
  pub counted : length r.counts ≡ r.rounds
  pub outs : r.rounds ≡ length r.order + 1
  -- an order of different processes: who goes out was still in
  pub leaves_in_lem : (m : ℕ) → m < length r.order → still_in n (take m r.order) (get_or r.order m 0) ≡ true
  pub wins_in : still_in n r.order r.winner ≡ true

-- ---- the conclusion: "names, counts of processes still in, order and winner agree"
pub record SameTold (n n' : ℕ) (names names' : ℕ → List ℕ) (r r' : Result) : Type 0 where
  pub same_n : n ≡ n'
  pub same_names : (i : ℕ) → i < n → names i ≡ names' i
  pub same_rounds : r.rounds ≡ r'.rounds
  pub same_counts : (m c : ℕ) → m < r.rounds → still_in n (take m r.order) c ≡ true → count_in r.counts m c ≡ count_in r'.counts m c
  pub same_order : r.order ≡ r'.order
  pub same_winner : r.winner ≡ r'.winner

pub record Sentences : Type 0 where
  -- "Counts are decimal without leading zeros": each number is written so, in one way alone, and read back
  pub is_decimal : (x : ℕ) → IsDecimal (decimal x)
  pub reads_back : (x : ℕ) → read_from 0 (decimal x) ≡ x
  pub one_way : (ds : List ℕ) → IsDecimal ds → decimal (read_from 0 ds) ≡ ds
  -- no two results with names read alike
  pub apart : (n n' : ℕ) (names names' : ℕ → List ℕ) (r r' : Result) → GoodNames n names → GoodNames n' names' → IsResult n r → IsResult n' r' →
      text n names r ≡ text n' names' r' → SameTold n n' names names' r r'
  -- names that pass 21 are good, and tell the bytes that were lent
  pub lent_good : (lent : List ℕ) (n : ℕ) → names_good lent n ≡ true → GoodNames n (name_of lent)
  pub lent_same : (lent lent' : List ℕ) (n : ℕ) → names_good lent n ≡ true → names_good lent' n ≡ true → ((i : ℕ) → i < n → name_of lent i ≡ name_of lent' i) → lent ≡ lent'

-- ---- of boards
-- what two boards with names have in common whose texts are the same
pub record SameNotice (s s' lent lent' : List ℕ) (rounds rounds' : ℕ) (order order' : List ℕ) (winner winner' : ℕ) : Type 0 where
  pub same_lent : lent ≡ lent'
  pub told : SameTold (header s).n (header s').n (name_of lent) (name_of lent') (board_result s rounds order winner) (board_result s' rounds' order' winner')

pub record Notices (hash : List ℕ → List ℕ) : Type 0 where
  -- the result of every accepted board meets the premises, and its counts are at most 1,000
  pub of_boards : (s : List ℕ) (rounds : ℕ) (order : List ℕ) (winner : ℕ) → check_board hash s ≡ accepted rounds order winner →
      IsResult (header s).n (board_result s rounds order winner)
  pub small : (s : List ℕ) (rounds : ℕ) (order : List ℕ) (winner : ℕ) → check_board hash s ≡ accepted rounds order winner →
      (m c : ℕ) → count_in (board_result s rounds order winner).counts m c ≤ 1000
  -- so two texts that the box writes are the same only if boards and names agree so
  pub apart : (s s' lent lent' : List ℕ) (room room' long long' : ℕ) (told : List ℕ) (rounds rounds' : ℕ) (order order' : List ℕ) (winner winner' : ℕ) →
      check_board hash s ≡ accepted rounds order winner → check_board hash s' ≡ accepted rounds' order' winner' →
      text_outcome hash s lent room ≡ text_told long told → text_outcome hash s' lent' room' ≡ text_told long' told →
      SameNotice s s' lent lent' rounds rounds' order order' winner winner'
  -- the result of an accepted board whose counted ballots' matrices open to rankings and struck rows is the plain count's, and so is its text
  pub plain : (s : List ℕ) (rounds : ℕ) (order : List ℕ) (winner : ℕ) (rankings : ℕ → List ℕ) →
      check_board hash s ≡ accepted rounds order winner → Opens s rankings rounds →
      board_result s rounds order winner ≡ plain_count (header s).n (counted_rankings s rankings)
  -- an output of 1,454 bytes is long enough for every board: in 7 lines 35 counts of 4 digits with names of 20 letters
  pub enough : (s lent : List ℕ) (rounds : ℕ) (order : List ℕ) (winner : ℕ) → check_board hash s ≡ accepted rounds order winner →
      names_good lent (header s).n ≡ true → length (text (header s).n (name_of lent) (board_result s rounds order winner)) ≤ 1454
