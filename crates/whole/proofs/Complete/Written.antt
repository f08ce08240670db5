-- The proofs that a job writes are honest: those of its ballots, and those of its shifts.
use Prim.Native.Nat.{ℕ, zero, suc, ◌+◌, ◌*◌, ◌-◌, ◌%◌, ◌^◌, ◌≤◌, ◌<◌}
use native.Mathlib.Nat.{mod-mod, mul-le-mul_right, le_trans}
use native.Mathlib.Omega.{arith}
use mathlib.Core.Path.{◌≡◌, refl, ◌∙◌}
use mathlib.Core.Bool.{Bool}
use mathlib.Core.List.{List, []}
use lib.Dec.{eqb}
use lib.ListN.{get_or}
use Rattle.numbers.specs.Below.{sum_below}
use Rattle.group.specs.Arithmetic.{pow_mod}
use Rattle.rules.specs.Group.{paired}
use Rattle.rules.specs.Records.{records_of}
use Rattle.rules.specs.Proofs.{Context}
use Rattle.rules.specs.Claims.{line_claim, entry_claim}
use Rattle.jobs.specs.Job.{Job, group_of, ranking_of, kind_of, remaining, record_draws, record_secrets, needed, plain_result, draw, rows_of}
use Rattle.jobs.specs.Board.{job_draws}
use Rattle.rules.proofs.Elements.{Good, power_root, pair_root, paired_mod, root_mod, root_over, root_prod}
use Rattle.whole.proofs.Complete.Honest.{Honest}
use Rattle.numbers.proofs.Tests.{by_cases}
use Rattle.jobs.proofs.FineJob.{Fine, good_group}
use Rattle.jobs.proofs.Rankings.{row_one, column_one}
use Rattle.jobs.proofs.Lists.{standing_all}
use Rattle.whole.proofs.Complete.Claims.{prod_powers, prod_pairs, pair_zero, pair_one}
use Rattle.jobs.specs.Records.{secret_at, opened, matrix_of, line_prover, entry_prover, row_prover, column_prover}
use Rattle.rules.proofs.Positions.{has_first}
use Rattle.jobs.proofs.Draws.{secrets_within, secrets_are, draws_among}

-- ballot k's secret in round m at row i, column j
abbrev pub secret : Job → (m k i j : ℕ) → ℕ
secret job m k i j = secret_at job.n job.draws (job_draws job m k) i j

-- a place in a matrix of so many rows
pub cell : (n rows i j : ℕ) → i < rows → j < n → i * n + j < rows * n
cell n rows i j a b = omega (arith, mul-le-mul_right n a)

module _ (hash : List ℕ → List ℕ) (job : Job) (f : Fine hash job) (m k : ℕ) (in_round : m < (plain_result job).rounds) (in_ballots : k < job.K) where
  pub draw_at : (e d : ℕ) → e < record_draws job.n (kind_of job k) m → d ≡ job_draws job m k + e → (1 ≤ draw job d) × (draw job d < job.q)
  unfolding needed
  draw_at e d l q =
      f.drawn d (omega (arith, draws_among job.n (kind_of job) job.K (plain_result job).rounds m k in_round in_ballots))

  pub draw_below : (e d : ℕ) → e < record_draws job.n (kind_of job k) m → d ≡ job_draws job m k + e → draw job d < job.q
  draw_below e d l q = (draw_at e d l q).1

  -- of a ballot that has a record in round m
  pub in_matrix : records_of (kind_of job k) m ≡ 1 → (i j : ℕ) → i < job.n - m → j < job.n → i * job.n + j < record_secrets job.n (kind_of job k) m
  in_matrix has i j a b = omega (arith, cell job.n (job.n - m) i j a b, secrets_are job.n (kind_of job k) m has)

  pub secret_at_lem : records_of (kind_of job k) m ≡ 1 → (i j : ℕ) → i < job.n - m → j < job.n → (1 ≤ secret job m k i j) × (secret job m k i j < job.q)
  secret_at_lem has i j a b = draw_at (i * job.n + j) _ (le_trans (in_matrix has i j a b) (secrets_within job.n (kind_of job k) m)) refl

module _ (hash : List ℕ → List ℕ) (job : Job) (f : Fine hash job) (k : ℕ) (in_round : 0 < (plain_result job).rounds) (in_ballots : k < job.K) where
  good : Good (group_of hash job)
  good = good_group hash job f

  -- of a BA, audited ones too
  pub first_secret : (i j : ℕ) → i < job.n → j < job.n → secret job 0 k i j < job.q
  first_secret i j a b = (secret_at_lem hash job f 0 k in_round in_ballots (has_first (kind_of job k)) i j (omega arith) b).1

  -- both sides of an entry's claim
  entry_roots : (x v l : ℕ) →
      ((entry_claim (group_of hash job) (paired (group_of hash job) x v) (pow_mod job.p (group_of hash job).g1 x) l).left ^ job.q % job.p ≡ 1)
      × ((entry_claim (group_of hash job) (paired (group_of hash job) x v) (pow_mod job.p (group_of hash job).g1 x) l).right ^ job.q % job.p ≡ 1)
  unfolding entry_claim
  entry_roots x v zero = (pair_root (group_of hash job) good x v, power_root (group_of hash job) good x)
  entry_roots x v (suc l) = (root_over (group_of hash job) good _ _ (pair_root (group_of hash job) good x v) good.root1, power_root (group_of hash job) good x)

  pub entry_honest : (i j : ℕ) → i < job.n → j < job.n →
      Honest (group_of hash job) (entry_prover (group_of hash job) job.n (k + 1) (rows_of job [] k) job.draws (job_draws job 0 k) i j)
  unfolding entry_claim matrix_of pow_mod record_draws
  entry_honest i j a b =
      let v : Bool = eqb (get_or (remaining [] (ranking_of job k)) i 0) (j + 1) in
      record {
        good = good;
        inside = by_cases v (λ e. rw e (omega arith)) (λ e. rw e (omega arith));
        root_left = λ l _ _ _. (entry_roots _ _ l).0;
        root_right = λ l _ _ _. (entry_roots _ _ l).1;
        known_left = λ _ _. by_cases v
            (λ e. rw e (pair_one (group_of hash job) good _ _ (paired_mod (group_of hash job) _ _)))
            (λ e. rw e (pair_zero (group_of hash job) good _));
        known_right = λ _ _. by_cases v (λ e. rw e (mod-mod _ job.p)) (λ e. rw e (mod-mod _ job.p));
        drawn = λ d l. draw_below hash job f 0 k in_round in_ballots (job.n * job.n + 3 * (i * job.n + j) + d) _ (omega (arith, cell job.n job.n i j a b)) (omega arith);
      }

  -- a row or column: n pairs that open to one 1 among them, and the proof of its claim, whose draw is the d-th of the record
  module _ (x v : ℕ → ℕ) (one : sum_below job.n v ≡ 1) (d : ℕ) (inside : d < record_draws job.n (kind_of job k) 0) where
    abbrev line_firsts : ℕ → ℕ
    line_firsts i = paired (group_of hash job) (x i) (v i)

    abbrev line_seconds : ℕ → ℕ
    line_seconds i = pow_mod job.p (group_of hash job).g1 (x i)

    line_honest : (c : Context) (from : ℕ) → from ≡ job_draws job 0 k + d →
        Honest (group_of hash job) (line_prover c job.draws (line_claim (group_of hash job) job.n line_firsts line_seconds) (sum_below job.n x) from)
    unfolding line_claim
    line_honest c from e =
        record {
          good = good;
          inside = omega arith;
          root_left = λ _ _ _ _.
              root_over (group_of hash job) good _ _ (root_prod (group_of hash job) good job.n _ (λ i _. pair_root (group_of hash job) good (x i) (v i))) good.root1;
          root_right = λ _ _ _ _. root_mod (group_of hash job) good _ (root_prod (group_of hash job) good job.n _ (λ i _. power_root (group_of hash job) good (x i)));
          known_left = λ _ _. pair_one (group_of hash job) good _ _ (prod_pairs (group_of hash job) good job.n x v ∙ rw one);
          known_right = λ _ _. mod-mod _ job.p ∙ prod_powers (group_of hash job) good job.n x;
          drawn = λ d' l. draw_below hash job f 0 k in_round in_ballots (d + d') _ (omega arith) (omega arith);
        }

  pub row_honest : (i : ℕ) → i < job.n → Honest (group_of hash job) (row_prover (group_of hash job) job.n (k + 1) (rows_of job [] k) job.draws (job_draws job 0 k) i)
  unfolding matrix_of record_draws
  row_honest i a =
      line_honest (λ j. secret job 0 k i j) (λ j. opened (rows_of job [] k) i j)
      (rw (standing_all (ranking_of job k)) (row_one job.n (ranking_of job k) (f.ranked k in_ballots) i a))
      (4 * (job.n * job.n) + i) (omega arith) _ _ (omega arith)

  pub column_honest : (j : ℕ) → j < job.n → Honest (group_of hash job) (column_prover (group_of hash job) job.n (k + 1) (rows_of job [] k) job.draws (job_draws job 0 k) j)
  unfolding matrix_of record_draws
  column_honest j a =
      line_honest (λ i. secret job 0 k i j) (λ i. opened (rows_of job [] k) i j)
      (rw (standing_all (ranking_of job k)) (column_one job.n (ranking_of job k) (f.ranked k in_ballots) j a))
      (4 * (job.n * job.n) + job.n + j) (omega arith) _ _ (omega arith)
