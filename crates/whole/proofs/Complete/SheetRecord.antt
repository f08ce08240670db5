-- The sheet that a job writes keeps its rules wherever it stands, and the plain count's counts are read on it.
use Prim.Native.Nat.{ℕ, suc, ◌+◌, ◌*◌, ◌%◌, ◌^◌, ◌≤◌, ◌<◌}
use native.Mathlib.Nat.{mod-lt, mod-eq_of_lt, pow-zero}
use native.Mathlib.Numerals.{add-one}
use native.Mathlib.Omega.{arith}
use mathlib.Core.Path.{◌≡◌, refl, sym, ◌∙◌}
use mathlib.Core.Bool.{Bool, true, cond}
use mathlib.Core.List.{List, [], ◌∷◌, ◌++◌}
use lib.Dec.{eqb}
use lib.ListN.{get_or}
use Rattle.numbers.specs.Below.{sum_below, concat_below}
use Rattle.numbers.proofs.Tests.{by_cases}
use Rattle.numbers.proofs.Products.{prod_same}
use Rattle.numbers.proofs.Sums.{sum_mono, few_picked, sum_same}
use Rattle.numbers.proofs.Residues.{mul_mod_lem}
use Rattle.numbers.proofs.RootsOfUnity.{pow_order}
use Rattle.group.specs.Arithmetic.{pow_mod}
use Rattle.group.specs.Elements.{Parameters}
use Rattle.rules.specs.Bytes.{bytes2, bytes4, Stands}
use Rattle.rules.specs.Group.{paired}
use Rattle.rules.specs.Claims.{Matrix}
use Rattle.rules.specs.Records.{is_counted}
use Rattle.rules.specs.Count.{votes_for, counts_of}
use Rattle.rules.specs.Sheet.{count_at, exponent_at, counts_at}
use Rattle.rules.proofs.Elements.{Good}
use Rattle.rules.proofs.Lists.{table_at, table_same, votes_where}
use Rattle.rules.proofs.Places.{stands_left, stands_right, stands_moved, stands_block, half_stands, word_stands}
use Rattle.jobs.specs.Job.{Job, group_of, header_of, ranking_of, kind_of, counted_below, counted_rankings, remaining, rows_of}
use Rattle.jobs.specs.Board.{job_draws, job_matrix, job_sheet}
use Rattle.jobs.specs.Records.{opened, matrix_of, sheet_bytes}
use Rattle.jobs.proofs.FineJob.{Fine, good_group}
use Rattle.jobs.proofs.Lists.{first_standing, ranked_processes}
use Rattle.jobs.proofs.Matrices.{SameMatrix}
use Rattle.jobs.proofs.Lengths.{length_sheet}
use Rattle.whole.specs.Rules.{SheetRules}
use Rattle.whole.proofs.Complete.Claims.{pair_none, prod_powers, prod_pairs}
use Rattle.whole.proofs.Complete.Written.{secret}
use Rattle.whole.proofs.Complete.BallotRecord.{mark_stands}

module _ (hash : List ℕ → List ℕ) (job : Job) (gone : List ℕ) (m : ℕ) where
  abbrev g : Parameters
  g = group_of hash job

  abbrev the_counts : List ℕ
  the_counts = counts_of job.n (counted_rankings job) gone

  abbrev votes : ℕ → ℕ
  votes i = votes_for job.n gone (counted_rankings job) (suc i)

  -- what a counted ballot's first row opens to in column i, and 0 of another
  abbrev x : (i k : ℕ) → ℕ
  x i k = cond (is_counted (kind_of job k)) (secret job m k 0 i) 0

  abbrev v : (i k : ℕ) → ℕ
  v i k = cond (is_counted (kind_of job k)) (opened (rows_of job gone k) 0 i) 0

  abbrev secrets : ℕ → ℕ
  secrets i = sum_below job.K (x i)

  abbrev field : ℕ → List ℕ
  field i = bytes2 (get_or the_counts i 0) ++ bytes4 (secrets i % job.q)

  count_at_lem : (i : ℕ) → i < job.n → get_or the_counts i 0 ≡ votes i
  unfolding counts_of
  count_at_lem i l = table_at job.n votes 0 i l

  module _ (f : Fine hash job) (s : List ℕ) (at out : ℕ) (stands : Stands s at (job_sheet job g m out the_counts)) where
    good : Good g
    good = good_group hash job f

    -- a count is the number of counted ballots whose first row has its 1 there
    votes_opened : (i : ℕ) → votes i ≡ sum_below job.K (v i)
    votes_opened i =
        votes_where job.n gone job.K (λ k. is_counted (kind_of job k)) (ranking_of job) (suc i)
        ∙ sum_same job.K _ _ (λ k l. rw (first_standing job.n gone (ranking_of job k) (ranked_processes job.n (ranking_of job k) (f.ranked k l)), add-one))

    one_each : (b c : Bool) → cond b (cond c 1 0) 0 ≤ cond b 1 0
    one_each b c = by_cases b (λ e. rw e (by_cases c (λ e. rw e (omega arith)) (λ e. rw e (omega arith)))) (λ e. rw e (omega arith))

    votes_below : (i : ℕ) → votes i ≤ counted_below job job.K
    votes_below i =
        rw (votes_opened i)
        (sum_mono job.K _ _ (λ k _. one_each (is_counted (kind_of job k)) (eqb (get_or (remaining gone (ranking_of job k)) 0 0) (i + 1))))

    few_counted : counted_below job job.K ≤ job.K
    few_counted = few_picked job.K (λ k. is_counted (kind_of job k))

    field_stands : (i : ℕ) → i < job.n → Stands s (at + 4 + 6 * i) (field i)
    unfolding sheet_bytes
    field_stands i l =
        stands_moved (omega arith) (stands_block job.n 6 field (λ _ _. refl) (stands_right (82 ∷ 84 ∷ (m + 1) ∷ out ∷ []) (concat_below job.n field) refl stands) i l)

    counted : (i : ℕ) → i < job.n → count_at s at i ≡ votes i
    counted i l =
        half_stands (omega (arith, count_at_lem i l, votes_below i, few_counted, f.K_high)) (stands_left (bytes2 (get_or the_counts i 0)) (bytes4 (secrets i % job.q)) (field_stands i l))
        ∙ count_at_lem i l

    read_s : (i : ℕ) → i < job.n → exponent_at s at i ≡ secrets i % job.q
    read_s i l =
        word_stands (omega (arith, mod-lt (secrets i) good.some_q, good))
        (stands_moved (omega arith) (stands_right (bytes2 (get_or the_counts i 0)) (bytes4 (secrets i % job.q)) refl (field_stands i l)))

    pub read_counts : counts_at s at job.n ≡ the_counts
    unfolding counts_at counts_of
    read_counts = table_same job.n _ votes counted

    -- with the ballots' kinds, and the matrices of the counted ones, read as they were written
    module _ (picks : ℕ → Bool) (ballots : ℕ → Matrix) (rows : ℕ) (some_row : 0 < rows)
        (kinds : (k : ℕ) → k < job.K → picks k ≡ is_counted (kind_of job k))
        (read : (k : ℕ) → k < job.K → is_counted (kind_of job k) ≡ true → SameMatrix rows job.n (ballots k) (job_matrix job g gone m k)) where
      first_b : (i k : ℕ) → i < job.n → k < job.K → cond (picks k) ((ballots k).b 0 i) 1 ≡ paired g (x i k) (v i k)
      unfolding matrix_of
      first_b i k l a =
          by_cases (is_counted (kind_of job k)) (λ c. rw (kinds k a, c) ((read k a c).same_b 0 i some_row l)) (λ c. rw (kinds k a, c, pair_none g good))

      first_y : (i k : ℕ) → i < job.n → k < job.K → cond (picks k) ((ballots k).y 0 i) 1 ≡ pow_mod job.p g.g1 (x i k)
      unfolding matrix_of pow_mod
      first_y i k l a =
          by_cases (is_counted (kind_of job k)) (λ c. rw (kinds k a, c) ((read k a c).same_y 0 i some_row l)) (λ c. rw (kinds k a, c, pow-zero g.g1) (sym (mod-eq_of_lt good.large)))

      all_in : sum_below job.K (λ k. cond (picks k) 1 0) ≡ counted_below job job.K
      all_in = sum_same job.K _ _ (λ k a. rw (kinds k a))

      pub sheet_kept : SheetRules s (header_of hash job) at (m + 1) picks ballots out
      unfolding sheet_bytes pow_mod
      sheet_kept =
          record {
            fits = omega (arith, stands.fits, length_sheet job.q job.n job.K (kind_of job) job.draws (job_draws job m) m out the_counts);
            marked = mark_stands stands;
            numbered = stands.same 2 (omega arith);
            small = λ i l. rw (read_s i l) (mod-lt (secrets i) good.some_q);
            few = λ i l. rw (counted i l, all_in) (votes_below i);
            tally_b = λ i l.
                rw (counted i l, read_s i l, prod_same job.K (λ k. cond (picks k) ((ballots k).b 0 i) 1) (λ k. paired g (x i k) (v i k)) (λ k a. first_b i k l a))
                (prod_pairs g good job.K (x i) (v i)
                ∙ cc (votes_opened i, mul_mod_lem (job.g0 ^ secrets i) (g.g1 ^ votes i) job.p, pow_order job.p job.q job.g0 good.root0 (secrets i)));
            tally_y = λ i l.
                rw (read_s i l, prod_same job.K (λ k. cond (picks k) ((ballots k).y 0 i) 1) (λ k. pow_mod job.p g.g1 (x i k)) (λ k a. first_y i k l a))
                (prod_powers g good job.K (x i) ∙ pow_order job.p job.q g.g1 good.root1 (secrets i));
            out_due = stands.same 3 (omega arith);
          }
