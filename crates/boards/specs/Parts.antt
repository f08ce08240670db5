-- What the code needs to write a round and a board, and the rounds told by the order of going out.
use Rattle.std.specs.Prelude.{ℕ, zero, suc, ◌+◌, ◌*◌, ◌-◌, ◌≤◌, ◌<◌, ◌≡◌, List, [], ◌∷◌, ◌++◌, length, get_or, take}
use Rattle.numbers.specs.Below.{concat_below}
use Rattle.group.specs.Elements.{Parameters, parameters_of}
use Rattle.rules.specs.Count.{counts_of}
use Rattle.jobs.specs.Job as J
use Rattle.jobs.specs.Job.{ranking_of, kind_of, counted_rankings, round_draws, round_at, remaining, row_of}
use Rattle.jobs.specs.Board.{record_bytes, job_draws, job_sheet}
use Rattle.proving.specs.Plans.{DrawsBelow}
use Rattle.count.specs.State.{counts_on, list_of, Listed}
use Rattle.count.specs.declared.Sheet.{Sheet}
use Rattle.count.specs.declared.Count.{Count}
use Rattle.boards.specs.declared.Head.{Head}
use Rattle.boards.specs.declared.Entries.{Entries}
use Rattle.boards.specs.declared.records.RoundPlan.{RoundPlan}
use Rattle.boards.specs.declared.records.Turn.{Turn}

-- the group that a board's header tells, and the job of the rules
abbrev pub head_group : Head → Parameters
head_group head = parameters_of head.setup.group

abbrev pub board_job : Entries → J.Job
board_job e =
    let g = head_group e.head in
    record { n = e.head.n; K = e.head.k; p = g.p; q = g.q; g0 = g.g0; counter = e.head.counter; label = e.label.now; rankings = e.rankings.now; kinds = e.kinds.now; draws = e.draws.now }

-- the draws, and the bytes, of a job's rounds before m
abbrev pub draws_before : J.Job → (m : ℕ) → ℕ
draws_before job m = round_draws job.n (kind_of job) job.K m

abbrev pub bytes_before : J.Job → (m : ℕ) → ℕ
bytes_before job m = round_at job.n (kind_of job) job.K m

-- what round j left to the next
pub record Later (job : J.Job) (t : RoundPlan) (j : ℕ) : Type 0 where
  pub old : t.old ≡ draws_before job j
  pub struck : list_of t.gone ≡ list_of t.before ++ (t.a ∷ [])
  pub low : 1 ≤ t.a
  pub high : t.a ≤ job.n
  pub left : (k : ℕ) → k < job.K → length (remaining (list_of t.before) (ranking_of job k)) ≡ job.n - j
  pub place : (k : ℕ) → k < job.K → row_of t.a (remaining (list_of t.before) (ranking_of job k)) < job.n - j

-- what the records of a round need
pub record RoundReady (job : J.Job) (t : RoundPlan) : Type 0 where
  pub n_high : job.n ≤ 8
  pub K_high : job.K ≤ 1000
  pub listed : length job.rankings ≡ job.K * job.n
  pub kinds : length job.kinds ≡ job.K
  pub early : t.m + 2 ≤ job.n
  pub before_listed : Listed t.before
  pub gone_listed : Listed t.gone
  pub drawn : DrawsBelow job.q job.draws 0 (draws_before job (suc t.m))
  pub low : draws_before job (suc t.m) ≤ 10000000
  pub old_low : t.old ≤ 10000000
  pub new : t.new ≡ draws_before job t.m
  pub first : t.m ≡ 0 → list_of t.gone ≡ []
  pub later : (j : ℕ) → t.m ≡ suc j → Later job t j

-- what a ballot's record in it needs
pub record TurnReady (job : J.Job) (t : Turn) : Type 0 where
  pub round : RoundReady job t.plan
  pub below : t.b < job.K
  pub new : t.new ≡ job_draws job t.plan.m t.b
  pub old : (j : ℕ) → t.plan.m ≡ suc j → t.old ≡ job_draws job j t.b

-- round m of a count that has ended: who has gone out, its sheet, and where the draws of the round before it and its own start
pub record Planned (c : Count) (m old new : ℕ) (t : RoundPlan) : Type 0 where
  pub round : t.m ≡ m
  pub before_listed : Listed t.before
  pub gone_listed : Listed t.gone
  pub gone : list_of t.gone ≡ take m c.gone.order
  pub first : m ≡ 0 → (list_of t.before ≡ []) × (t.a ≡ 0)
  pub later : (j : ℕ) → m ≡ suc j → (list_of t.before ≡ take j c.gone.order) × (t.a ≡ get_or c.gone.order j 0)
  pub older : t.old ≡ old
  pub newer : t.new ≡ new
  pub out : t.out ≡ get_or c.gone.order m 0
  pub sheet : (n : ℕ) (counts : List ℕ) → ((d : Sheet) → counts_on n (get_or c.sheets m d) ≡ counts) → counts_on n t.sheet ≡ counts

-- what a board needs whose processes go out in an order: the draws are there, each process that goes out was still in
pub record Writable (job : J.Job) (order : List ℕ) (rounds : ℕ) : Type 0 where
  pub n_low : 2 ≤ job.n
  pub n_high : job.n ≤ 8
  pub K_high : job.K ≤ 1000
  pub listed : length job.rankings ≡ job.K * job.n
  pub kinds : length job.kinds ≡ job.K
  pub few : rounds + 1 ≤ job.n
  pub drawn : DrawsBelow job.q job.draws 0 (draws_before job rounds)
  pub low : draws_before job rounds ≤ 10000000
  pub struck : (j : ℕ) → suc j < rounds → take (suc j) order ≡ take j order ++ (get_or order j 0 ∷ [])
  pub above : (j : ℕ) → suc j < rounds → 1 ≤ get_or order j 0
  pub below : (j : ℕ) → suc j < rounds → get_or order j 0 ≤ job.n
  pub left : (j k : ℕ) → j < rounds → k < job.K → length (remaining (take j order) (ranking_of job k)) ≡ job.n - j
  pub place : (j k : ℕ) → suc j < rounds → k < job.K → row_of (get_or order j 0) (remaining (take j order) (ranking_of job k)) < job.n - j

-- the sheets of a count that has ended hold the counts of its rounds
abbrev pub Sheeted : J.Job → Count → Type 0
Sheeted job c =
    (t : Sheet) (m : ℕ) → m ≤ c.gone.outs →
    counts_on job.n (get_or c.sheets m t) ≡ counts_of job.n (counted_rankings job) (take m c.gone.order)

module _ (hash : List ℕ → List ℕ) (job : J.Job) (g : Parameters) where
  -- the records and the sheet of a round that is planned
  abbrev pub plan_records : RoundPlan → List ℕ
  plan_records t = concat_below job.K (record_bytes hash job g (list_of t.before) t.a t.m)

  abbrev pub plan_bytes : RoundPlan → List ℕ
  plan_bytes t = plan_records t ++ job_sheet job g t.m t.out t.sheet.counts

  module _ (order : List ℕ) where
    -- the ballots or shifts of round m: before the round before it the first m - 1 had gone out
    unfoldable pub records_of : (m : ℕ) → List ℕ
    records_of zero = concat_below job.K (record_bytes hash job g [] 0 0)
    records_of (suc m) = concat_below job.K (record_bytes hash job g (take m order) (get_or order m 0) (suc m))

    -- and its sheet; past the order's end, on the closing sheet, out is 0
    unfoldable pub round_bytes : (m : ℕ) → List ℕ
    round_bytes m = records_of m ++ job_sheet job g m (get_or order m 0) (counts_of job.n (counted_rankings job) (take m order))
