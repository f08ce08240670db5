-- The proof of a shift that a job writes is honest.
use Prim.Native.Nat.{ℕ, zero, suc, ◌+◌, ◌*◌, ◌-◌, ◌/◌, ◌%◌, ◌^◌, ◌≤◌, ◌<◌}
use native.Mathlib.Nat.{mod-lt, mod-mod, mod-eq_of_lt, mul-one, pow-zero, div-lt_iff_lt-mul}
use native.Mathlib.Omega.{arith}
use mathlib.Core.Path.{◌≡◌, sym, ◌∙◌}
use mathlib.Core.Bool.{true, cond}
use mathlib.Core.List.{List, [], ◌∷◌, ◌++◌}
use lib.Dec.{eqb}
use lib.ListN.{length, get_or}
use borrow.Author.Tests.{eqb-false, eq-eqb, ne_eqb}
use Rattle.numbers.proofs.Products.{prod_same}
use Rattle.numbers.proofs.Sums.{sum_zero}
use Rattle.group.specs.Elements.{Parameters}
use Rattle.rules.specs.Group.{paired}
use Rattle.group.specs.Arithmetic.{pow_mod}
use Rattle.rules.specs.Claims.{Matrix, shift_claim, source, besides}
use Rattle.rules.specs.Count.{member}
use Rattle.rules.specs.Records.{is_counted}
use Rattle.jobs.specs.Board.{job_draws, job_matrix}
use Rattle.jobs.specs.Job.{Job, group_of, ranking_of, remaining, kind_of, row_of, record_draws, plain_result, rows_of}
use Rattle.rules.proofs.Elements.{Good, power_root, pair_root, paired_mod, root_mod, root_over, root_prod, root_one}
use Rattle.whole.proofs.Complete.Honest.{Honest}
use Rattle.numbers.proofs.Tests.{by_cases}
use Rattle.jobs.proofs.FineJob.{Fine, good_group}
use Rattle.jobs.proofs.Rankings.{place_at, place_below, struck_at, times, times_member}
use Rattle.jobs.proofs.Lists.{strike}
use Rattle.whole.proofs.Complete.Claims.{pair_none, prod_powers, prod_pairs, pair_one, pair_over, power_over}
use Rattle.rules.proofs.Positions.{counted_has}
use Rattle.whole.proofs.Complete.Written.{draw_below, secret_at_lem, secret}
use Rattle.jobs.specs.Records.{matrix_of, shift_prover, shift_witness}
use Rattle.jobs.proofs.Matrices.{source_below}

module _ (hash : List ℕ → List ℕ) (job : Job) (f : Fine hash job) (before : List ℕ) (a m k : ℕ)
    (in_round : suc m < (plain_result job).rounds) (in_ballots : k < job.K) (is_counted_lem : is_counted (kind_of job k) ≡ true) (rows : suc m ≤ job.n) (a_low : 1 ≤ a)
    (a_once : times a (remaining before (ranking_of job k)) ≡ 1) (short : length (remaining before (ranking_of job k)) ≤ job.n - m) where
  abbrev g : Parameters
  g = group_of hash job

  abbrev row : ℕ
  row = row_of a (remaining before (ranking_of job k))

  abbrev old : Matrix
  old = job_matrix job g before m k

  abbrev new : Matrix
  new = job_matrix job g (before ++ (a ∷ [])) (suc m) k

  abbrev witness : ℕ → ℕ
  witness = shift_witness job.q job.n job.draws (job_draws job m k) (job_draws job (suc m) k) (a - 1) row

  good : Good g
  good = good_group hash job f

  has : member a (remaining before (ranking_of job k)) ≡ true
  has = times_member a (remaining before (ranking_of job k)) (omega arith)

  here : get_or (remaining before (ranking_of job k)) row 0 ≡ a
  here = place_at a (remaining before (ranking_of job k)) has

  root_left : (l i : ℕ) → (shift_claim g job.n old new (a - 1) l i).left ^ job.q % job.p ≡ 1
  unfolding shift_claim matrix_of
  root_left l zero = root_over g good _ _ (pair_root g good _ _) good.root1
  root_left l (suc zero) =
      root_mod g good _ (root_prod g good job.n _
      (λ j _. by_cases (eqb j (a - 1)) (λ e. rw e (root_one g good)) (λ e. rw e (pair_root g good _ _))))
  root_left l (suc (suc i)) = root_over g good _ _ (pair_root g good _ _) (pair_root g good _ _)

  root_right : (l i : ℕ) → (shift_claim g job.n old new (a - 1) l i).right ^ job.q % job.p ≡ 1
  unfolding shift_claim matrix_of
  root_right l zero = power_root g good _
  root_right l (suc zero) =
      root_mod g good _ (root_prod g good job.n _
      (λ j _. by_cases (eqb j (a - 1)) (λ e. rw e (root_one g good)) (λ e. rw e (power_root g good _))))
  root_right l (suc (suc i)) = root_over g good _ _ (power_root g good _) (power_root g good _)

  -- the secret of the pair that a new one comes from
  source_secret : (i : ℕ) → i < (job.n - suc m) * job.n → secret job m k (source row (i / job.n)) (i % job.n) ≤ job.q
  source_secret i l =
      let some : 0 < job.n = omega (arith, f.n_low) in
      let b : i / job.n < job.n - suc m = (div-lt_iff_lt-mul some).1 l in
      let c : source row (i / job.n) < job.n - suc m + 1 = source_below row (i / job.n) (job.n - suc m) b in
      omega (arith, (secret_at_lem hash job f m k (omega arith) in_ballots (counted_has (kind_of job k) m is_counted_lem) (source row (i / job.n)) (i % job.n) (omega arith) (mod-lt i some)).1)

  -- the new row i is the row that it comes from
  moved : (i : ℕ) → get_or (remaining (before ++ (a ∷ [])) (ranking_of job k)) i 0 ≡ get_or (remaining before (ranking_of job k)) (source row i) 0
  moved i = rw (← (strike a before (ranking_of job k))) (struck_at a (remaining before (ranking_of job k)) a_once i)

  -- the struck row has its 1 at a alone
  besides_left : (j : ℕ) → j < job.n → besides (a - 1) (old.b row) j ≡ paired g (cond (eqb j (a - 1)) 0 (secret job m k row j)) 0
  unfolding matrix_of
  besides_left j l =
      by_cases (eqb j (a - 1))
      (λ e. rw (e, pair_none g good))
      (λ e. rw (e, here, ne_eqb a (j + 1) (λ q. eqb-false j (a - 1) e (omega arith))))

  besides_right : (j : ℕ) → j < job.n → besides (a - 1) (old.y row) j ≡ pow_mod job.p g.g1 (cond (eqb j (a - 1)) 0 (secret job m k row j))
  unfolding matrix_of pow_mod
  besides_right j l = by_cases (eqb j (a - 1)) (λ e. rw (e, pow-zero g.g1) (sym (mod-eq_of_lt good.large))) (λ e. rw e)

  known_left : (i : ℕ) → i < 2 + (job.n - suc m) * job.n →
      (shift_claim g job.n old new (a - 1) row i).left % job.p ≡ job.g0 ^ witness i % job.p
  unfolding shift_claim matrix_of shift_witness
  known_left zero l =
      let e : a ≡ a - 1 + 1 = omega arith in
      pair_one g good _ _ (paired_mod g _ _ ∙ rw (here, eq-eqb a (a - 1 + 1) e))
  known_left (suc zero) l =
      let x : ℕ → ℕ = λ j. cond (eqb j (a - 1)) 0 (secret job m k row j) in
      mod-mod _ job.p
      ∙ rw (prod_same job.n (besides (a - 1) (old.b row)) (λ j. paired g (x j) 0) besides_left)
      (prod_pairs g good job.n x (λ _. 0) ∙ rw (sum_zero job.n, pow-zero g.g1, mul-one))
  known_left (suc (suc i)) l = rw (moved (i / job.n)) (pair_over g good _ _ _ (source_secret i (omega arith)))

  known_right : (i : ℕ) → i < 2 + (job.n - suc m) * job.n →
      (shift_claim g job.n old new (a - 1) row i).right % job.p ≡ g.g1 ^ witness i % job.p
  unfolding shift_claim matrix_of pow_mod shift_witness
  known_right zero l = mod-mod _ job.p
  known_right (suc zero) l =
      let x : ℕ → ℕ = λ j. cond (eqb j (a - 1)) 0 (secret job m k row j) in
      mod-mod _ job.p
      ∙ rw (prod_same job.n (besides (a - 1) (old.y row)) (λ j. pow_mod job.p g.g1 (x j)) besides_right)
      (prod_powers g good job.n x)
  known_right (suc (suc i)) l = power_over g good _ _ (source_secret i (omega arith))

  pub shift_honest :
      Honest g (shift_prover g job.n (job.n - suc m) (suc m + 1) (k + 1) (rows_of job before k) (rows_of job (before ++ (a ∷ [])) k) row (a - 1) job.draws (job_draws job m k) (job_draws job (suc m) k))
  unfolding record_draws
  shift_honest =
      record {
        good = good;
        inside = omega (arith, place_below a (remaining before (ranking_of job k)) has);
        root_left = λ l i _ _. root_left l i;
        root_right = λ l i _ _. root_right l i;
        known_left = known_left;
        known_right = known_right;
        drawn = λ d l. draw_below hash job f (suc m) k in_round in_ballots ((job.n - suc m) * job.n + d) _ (rw is_counted_lem (omega arith)) (omega arith);
      }
