-- What the refusals name: never the end of the fuel, never a record or a ranking that is not there.
use Rattle.std.specs.Prelude.{ℕ, suc, ◌+◌, ◌*◌, ◌-◌, ◌≤◌, ◌<◌, ◌≡◌, ◌↔◌, ◌⊎◌, true, false, List, [], ◌∷◌, length}
use Rattle.rules.specs.Count.{member, is_ranking, start, count_from, plain_count}
use Rattle.rules.specs.Header.{Header, header}
use Rattle.rules.specs.Check.{place, record_number, counted, accepted, refused, check_board, check_small}
use Rattle.rules.specs.Receipts.{find_refused, find_outcome}
use Rattle.rules.specs.Notice.{text_refused, text_outcome}
use Rattle.jobs.specs.Job.{Job, ranking_of, board_length}
use Rattle.jobs.specs.Write.{no_repeat, job_fault, job_refused, write_outcome, Valid}

-- "The result of a refusal is its number and the record's number (with 12, the number of records read)"
pub record BoardRefusal (s : List ℕ) (refusal number : ℕ) : Type 0 where
  -- 01's numbers but for those of the writer and of lists, and 17 to 19 of 02, L5
  pub numbered : member refusal (1 ∷ 2 ∷ 3 ∷ 4 ∷ 5 ∷ 6 ∷ 7 ∷ 8 ∷ 9 ∷ 10 ∷ 11 ∷ 12 ∷ 17 ∷ 18 ∷ 19 ∷ []) ≡ true
  -- 19 is due "after the last BA, and naming it"
  pub last : refusal ≡ 19 → number ≡ (header s).K
  -- the rounds read, the last perhaps in part: those before it stand on the board in full
  pub rounds : ℕ
  pub few : rounds ≤ (header s).n - 1
  pub stands : (m : ℕ) → rounds ≡ suc m → place s (header s) m 0 ≤ length s
  pub within : number ≤ record_number s (header s) rounds 0
  -- that is (`records_read`), of 7 rounds of 1,000 ballots and a sheet at the most
  pub most : number ≤ 7008

-- "With 13 goes the first bad ranking from 1, or 0 for a wrong length; with the others 0."
pub record JobRefusal (job : Job) (number ranking : ℕ) : Type 0 where
  pub numbered : member number (3 ∷ 4 ∷ 5 ∷ 13 ∷ 17 ∷ 19 ∷ 14 ∷ 20 ∷ 15 ∷ []) ≡ true
  pub others : (number ≡ 13 → ⊥) → ranking ≡ 0
  pub wrong_length : (length job.rankings ≡ job.K * job.n → ⊥) → ranking ≡ 0
  pub first_bad_lem : number ≡ 13 → length job.rankings ≡ job.K * job.n →
      (k : ℕ) × (ranking ≡ suc k) × (k < job.K) × (is_ranking job.n (ranking_of job k) ≡ false)
      × ((i : ℕ) → i < k → is_ranking job.n (ranking_of job i) ≡ true)
  pub most : ranking ≤ 1000

-- of finding receipts: 16 and 15 concern the lists and name 0, 1 to 6 and 17 a record up to the last BA
pub record FindRefusal (s : List ℕ) (refusal number : ℕ) : Type 0 where
  pub numbered : member refusal (16 ∷ 15 ∷ 1 ∷ 2 ∷ 3 ∷ 4 ∷ 5 ∷ 6 ∷ 17 ∷ []) ≡ true
  pub lists : member refusal (16 ∷ 15 ∷ []) ≡ true → number ≡ 0
  pub within : number ≤ (header s).K
  pub most : number ≤ 1000

-- of a text: "A board that the checker refuses is refused alike, first."; 21 and 15 concern no record and name 0
pub record TextRefusal (hash : List ℕ → List ℕ) (s : List ℕ) (refusal number : ℕ) : Type 0 where
  pub alike : (r k : ℕ) → check_board hash s ≡ refused r k → (refusal ≡ r) × (number ≡ k)
  pub others : (rounds : ℕ) (order : List ℕ) (winner : ℕ) → check_board hash s ≡ accepted rounds order winner → (member refusal (21 ∷ 15 ∷ []) ≡ true) × (number ≡ 0)
  pub most : number ≤ 7008

pub record Refusals (hash : List ℕ → List ℕ) : Type 0 where
  pub of_boards : (s : List ℕ) (refusal number : ℕ) → check_board hash s ≡ refused refusal number → BoardRefusal s refusal number
  -- for the screen (02, L12): 23 of the header, or one of those
  pub of_small : (s : List ℕ) (refusal number : ℕ) → check_small hash s ≡ refused refusal number → ((refusal ≡ 23) × (number ≡ 0)) ⊎ BoardRefusal s refusal number
  -- the records of m + 1 rounds: the header, K ballots and a sheet, and in each further round a shift of each counted ballot and a sheet
  pub records_read : (s : List ℕ) (h : Header) (m : ℕ) → record_number s h (suc m) 0 ≡ 1 + (h.K + 1) + m * (counted s h + 1)
  pub of_jobs : (job : Job) (room number ranking : ℕ) → write_outcome hash job room ≡ job_refused number ranking → JobRefusal job number ranking
  pub of_finds : (s digests : List ℕ) (room refusal number : ℕ) → find_outcome hash s digests room ≡ find_refused refusal number → FindRefusal s refusal number
  pub of_texts : (s lent : List ℕ) (room refusal number : ℕ) → text_outcome hash s lent room ≡ text_refused refusal number → TextRefusal hash s refusal number
  -- a job is written just where it is valid, no matrix repeats an x and its board fits
  pub none : (job : Job) (room : ℕ) → (job_fault hash job room ≡ 0) ↔ (Valid hash job × (no_repeat job ≡ true) × (board_length job ≤ room))
  -- the plain count of 2 or more processes ends by itself: more fuel changes nothing
  pub of_counts : (n extra : ℕ) (rankings : List (List ℕ)) → 2 ≤ n →
      ((plain_count n rankings).rounds ≤ n - 1) × (count_from n rankings (n + extra) start ≡ plain_count n rankings)
