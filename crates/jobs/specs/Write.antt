-- Where a job stops: the writer's tests, its outcome, and what the output then holds.
use Rattle.std.specs.Prelude.{ℕ, ◌+◌, ◌*◌, ◌≡◌, Bool, true, cond, not, ◌&&◌, ◌||◌, List, [], ◌∷◌, ◌++◌, leb, ltb, eqb, length, get_or, drop}
use Rattle.numbers.specs.Below.{all_below, first_below}
use Rattle.rules.specs.Records.{is_counted, is_audited}
use Rattle.rules.specs.Group.{orders, generators}
use Rattle.rules.specs.Count.{is_ranking}
use Rattle.rules.specs.Tests.{first_fault, ◌or_else◌}
use Rattle.rules.specs.Header.{ranked, sizes}
use Rattle.jobs.specs.Job.{Job, group_of, ranking_of, kind_of, counted_below, record_secrets, draws_at, draw, needed, board_length, plain_result}
use Rattle.jobs.specs.Board.{board}

-- "5: a label not of 32 bytes, or a rule on g0 or g1 broken"
abbrev pub label_good : (hash : List ℕ → List ℕ) → Job → Bool
label_good hash job = eqb (length job.label) 32 && generators hash job.label job.counter (group_of hash job)

-- "13: list not K × n long, or a ranking lacks a process"
abbrev pub rankings_good : Job → Bool
rankings_good job = eqb (length job.rankings) (job.K * job.n) && all_below job.K (λ k. is_ranking job.n (ranking_of job k))

-- 02, L5: "It refuses with 17 another kind (..; in the writer after 13, then 19, then 14; also for a kind list not K long)"
abbrev pub kinds_good : Job → Bool
kinds_good job = eqb (length job.kinds) job.K && all_below job.K (λ k. is_counted (kind_of job k) || is_audited (kind_of job k))

-- 02, L5: "with 19 a board with nothing counted"
abbrev pub some_counted : Job → Bool
some_counted job = not (eqb (counted_below job job.K) 0)

-- "14: fewer than needed, or a needed one outside 1 to q−1"
abbrev pub draws_good : Job → Bool
draws_good job = leb (needed job) (length job.draws) && all_below (needed job) (λ d. leb 1 (draw job d) && ltb (draw job d) job.q)

-- 02, L6: "the x of a matrix are pairwise different": of a matrix whose x are so many draws from a place on
unfoldable pub different : (draws : List ℕ) (from size : ℕ) → Bool
different draws from size = all_below size (λ j. all_below j (λ i. not (eqb (get_or draws (from + i) 0) (get_or draws (from + j) 0))))

-- of the matrices of so many rounds, each by itself; 02, L6: "Across matrices a repeat stays allowed."
abbrev pub rounds_different : (n : ℕ) (kind : ℕ → ℕ) (K rounds : ℕ) (draws : List ℕ) → Bool
rounds_different n kind K rounds draws = all_below rounds (λ m. all_below K (λ k. different draws (draws_at n kind K m k) (record_secrets n (kind k) m)))

-- of all matrices of the board: of needed draws alone
abbrev pub no_repeat : Job → Bool
no_repeat job = rounds_different job.n (kind_of job) job.K (plain_result job).rounds job.draws

module _ (hash : List ℕ → List ℕ) (job : Job) where
  -- none of 3, 4, 5, 13, 17 and 19 is due
  pub record Passed : Type 0 where
    pub sized : sizes ranked job.n job.K ≡ true
    pub ordered : orders job.n job.K job.p job.q ≡ true
    pub labelled : label_good hash job ≡ true
    pub ranked : rankings_good job ≡ true
    pub kinds : kinds_good job ≡ true
    pub some_counted_lem : some_counted job ≡ true

  -- from 1 to 1,000 rankings of 2 to 8 processes, in any valid group with any valid draws:
  -- "A group with its label and counter is valid if neither 4 nor 5 is due; draws are valid if 14 is not due."
  pub record Valid : Type 0 where
    pub passed : Passed
    pub drawn : draws_good job ≡ true

-- "It checks n and K (3), group (4), label and generators (5 ..), rankings (13 ..), draws (14 ..), output (15: shorter than the board)."; 17 and 19 behind 13;
-- 02, L6: "It refuses with 20 a repeat, after 14 and before 15."
-- 0 where no test fails; room: the output's length
unfoldable pub job_fault : (hash : List ℕ → List ℕ) → Job → (room : ℕ) → ℕ
job_fault hash job room =
    first_fault
    ((sizes ranked job.n job.K or_else 3)
    ∷ (orders job.n job.K job.p job.q or_else 4)
    ∷ (label_good hash job or_else 5)
    ∷ (rankings_good job or_else 13)
    ∷ (kinds_good job or_else 17)
    ∷ (some_counted job or_else 19)
    ∷ (draws_good job or_else 14)
    ∷ (no_repeat job or_else 20)
    ∷ (leb (board_length job) room or_else 15)
    ∷ [])

-- the first of the first k rankings, from 1, that lacks a process; 0 where none does
abbrev pub first_bad : Job → (k : ℕ) → ℕ
first_bad job k = first_below k (λ i. not (is_ranking job.n (ranking_of job i)))

-- "With 13 goes the first bad ranking from 1, or 0 for a wrong length; with the others 0."
unfoldable pub bad_ranking : Job → (number : ℕ) → ℕ
bad_ranking job number = cond (eqb number 13 && eqb (length job.rankings) (job.K * job.n)) (first_bad job job.K) 0

-- "A written one gives the board's length and result", a refused one its number and the bad ranking
pub data Outcome : Type 0 where
  board_written : (length rounds : ℕ) (order : List ℕ) (winner : ℕ) → Outcome
  job_refused : (number bad_ranking : ℕ) → Outcome

unfoldable pub write_outcome : (hash : List ℕ → List ℕ) → Job → (room : ℕ) → Outcome
write_outcome hash job room =
    cond (eqb (job_fault hash job room) 0)
    (board_written (board_length job) (plain_result job).rounds (plain_result job).order (plain_result job).winner)
    (job_refused (job_fault hash job room) (bad_ranking job (job_fault hash job room)))

-- "A refused job changes nothing in the output." "bytes past it stay"
unfoldable pub write_output : (hash : List ℕ → List ℕ) → Job → (out : List ℕ) → List ℕ
write_output hash job out = cond (eqb (job_fault hash job (length out)) 0) (board hash job ++ drop (board_length job) out) out
