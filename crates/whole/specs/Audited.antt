-- "each accepted audited ballot provably opens to its shown ranking" (02, L5): with no premise but acceptance, and to nothing else.
use Rattle.std.specs.Prelude.{ℕ, ◌<◌, ◌≡◌, ◌⊎◌, true, List}
use Rattle.rules.specs.Records.{is_audited}
use Rattle.rules.specs.Count.{is_ranking}
use Rattle.rules.specs.Header.{header}
use Rattle.rules.specs.Audit.{value_of, shown_exponent, shown_ranking}
use Rattle.rules.specs.Check.{accepted, place, kind, matrix, check_board}
use Rattle.rules.specs.Openings.{Opening, OpensTo, Counted}
use Rattle.jobs.specs.Job.{Job, ranking_of, kind_of}
use Rattle.jobs.specs.Records.{secret_at}
use Rattle.jobs.specs.Board.{job_draws, board}
use Rattle.jobs.specs.Write.{Valid}

-- what ballot k's record shows, if it is audited: the exponents, and the ranking
module _ (s : List ℕ) (k : ℕ) where
  abbrev pub exponent_of : (i j : ℕ) → ℕ
  exponent_of i j = shown_exponent s (header s).n (place s (header s) 0 k) i j

  abbrev pub ranking_shown : List ℕ
  ranking_shown = shown_ranking s (header s).n (place s (header s) 0 k)

  -- pair (i, j) of the ballot's matrix opens to x and v
  abbrev pub PairOpens : (i j x v : ℕ) → Type 0
  PairOpens i j x v = Opening (header s).group ((matrix s (header s) 0 k).b i j) ((matrix s (header s) 0 k).y i j) x v

  pub record OpensAsShown : Type 0 where
    pub ranking : is_ranking (header s).n ranking_shown ≡ true
    -- "every pair must open so"
    pub opens : (i j : ℕ) → i < (header s).n → j < (header s).n → PairOpens i j (exponent_of i j) (value_of ranking_shown i j)
    -- so that the matrix opens to the shown ranking
    pub to_ranking : OpensTo (header s).group (header s).n (header s).n (matrix s (header s) 0 k) ranking_shown
    -- no pair opens another way
    pub alone : (i j x v : ℕ) → i < (header s).n → j < (header s).n → PairOpens i j x v → (x ≡ exponent_of i j) × (v ≡ value_of ranking_shown i j)
    -- and the matrix opens to no other list
    pub no_other : (list : List ℕ) → OpensTo (header s).group (header s).n (header s).n (matrix s (header s) 0 k) list → list ≡ ranking_shown

module _ (hash : List ℕ → List ℕ) where
  abbrev pub Accepted : (s : List ℕ) → Type 0
  Accepted s = (rounds : ℕ) × (order : List ℕ) × (winner : ℕ) × (check_board hash s ≡ accepted rounds order winner)

  pub record Audited : Type 0 where
    -- on an accepted board every ballot is counted or audited, and at least one is counted
    pub either : (s : List ℕ) → Accepted s → (k : ℕ) → k < (header s).K → (kind s (header s) k ≡ 0) ⊎ (kind s (header s) k ≡ 1)
    pub some_counted_lem : (s : List ℕ) → Accepted s → (k : ℕ) × (k < (header s).K) × Counted s k
    -- each audited one opens to its shown ranking
    pub opens_as_shown_lem : (s : List ℕ) → Accepted s → (k : ℕ) → k < (header s).K → is_audited (kind s (header s) k) ≡ true → OpensAsShown s k
    -- on a board written by the rules it shows its own ranking, and the draws of its pairs
    pub written : (job : Job) → Valid hash job → (k : ℕ) → k < job.K → is_audited (kind_of job k) ≡ true →
        (ranking_shown (board hash job) k ≡ ranking_of job k)
        × ((i j : ℕ) → i < job.n → j < job.n → exponent_of (board hash job) k i j ≡ secret_at job.n job.draws (job_draws job 0 k) i j)
