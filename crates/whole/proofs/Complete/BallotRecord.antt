-- The record of a ballot that a job writes keeps its rules, wherever it stands.
use Prim.Native.Nat.{ℕ, ◌+◌, ◌*◌, ◌%◌, ◌<◌}
use native.Mathlib.Nat.{mod-lt}
use native.Mathlib.Omega.{arith}
use mathlib.Core.Path.{◌≡◌, refl, ap, ◌∙◌}
use mathlib.Core.Bool.{true, cond}
use mathlib.Core.List.{List, [], ◌∷◌, ◌++◌}
use lib.ListN.{length, length-append}
use borrow.Author.Tests.{eq-eqb}
use Rattle.numbers.specs.Below.{concat_below}
use Rattle.numbers.proofs.Tests.{and_true}
use Rattle.group.specs.Elements.{Parameters}
use Rattle.group.specs.Arithmetic.{pow_mod}
use Rattle.rules.specs.Bytes.{number2, bytes2, bytes4, Stands}
use Rattle.rules.specs.Records.{has_mark, kind_at, is_audited, counted_length, record_length}
use Rattle.rules.specs.Audit.{shown_exponent, shown_ranking}
use Rattle.rules.specs.Claims.{Matrix, matrix_at}
use Rattle.rules.specs.Ballot.{ballot_matrix, entry_proof, row_proof, column_proof, entry_place, row_place, column_place, ballot_context}
use Rattle.rules.proofs.Elements.{Good, root_mul, root_mod, root_element, root_g0, root_g1}
use Rattle.rules.proofs.Places.{stands_left, stands_right, stands_moved, stands_block, byte_stands, half_stands, word_stands, part_stands, places_joined}
use Rattle.jobs.specs.Job.{Job, group_of, header_of, ranking_of, kind_of, plain_result, rows_of}
use Rattle.jobs.specs.Board.{job_draws, job_matrix, job_ballot, record_bytes}
use Rattle.jobs.specs.Prover.{proof_bytes, Prover}
use Rattle.jobs.specs.Records.{matrix_of, pair_bytes, audit_bytes, entry_prover, row_prover, column_prover, ballot_bytes, ballot_proof_bytes}
use Rattle.jobs.proofs.FineJob.{Fine, good_group}
use Rattle.jobs.proofs.Matrices.{SameMatrix, pairs_stand, pairs_good_lem, entry_same, row_same, column_same}
use Rattle.jobs.proofs.Lengths.{length_pairs, length_proof, length_proofs, length_entries, length_rows, length_columns, length_record}
use Rattle.jobs.proofs.Lists.{standing_all}
use Rattle.jobs.proofs.Rankings.{ranking_length}
use Rattle.numbers.proofs.Blocks.{length_blocks}
use Rattle.whole.specs.Rules.{PairRules, ShownRules, BallotRules}
use Rattle.whole.proofs.Rules.{kind_iff, pair_rules}
use Rattle.whole.proofs.Complete.Honest.{honest_fields, honest_holds}
use Rattle.whole.proofs.Complete.Written.{secret, first_secret, entry_honest, row_honest, column_honest}

pub mark_stands : {s : List ℕ} {at a b : ℕ} {x : List ℕ} → Stands s at (a ∷ b ∷ x) → has_mark s at (a ∷ b ∷ []) ≡ true
mark_stands h = and_true (eq-eqb _ _ (byte_stands h)) (eq-eqb _ _ (h.same 1 (omega arith)))

-- ---- a written matrix: small numbers, and elements
module _ (hash : List ℕ → List ℕ) (job : Job) (f : Fine hash job) (gone : List ℕ) (m k : ℕ) where
  good : Good (group_of hash job)
  good = good_group hash job f

  pub written_matrix : (s : List ℕ) (at rows : ℕ) → Stands s at (pair_bytes job.n (job_matrix job (group_of hash job) gone m k) rows) →
      SameMatrix rows job.n (matrix_at s job.n at) (job_matrix job (group_of hash job) gone m k)
  unfolding matrix_of pow_mod
  written_matrix s at rows h =
      let below : (x : ℕ) → x % job.p < 4294967296 = λ x. omega (arith, mod-lt x {m = job.p} (omega (arith, good.large)), good.small) in
      pairs_stand s at job.n rows _ (λ i j. below _) (λ i j. below _) h

  pub written_good : (rows : ℕ) (M : Matrix) → SameMatrix rows job.n M (job_matrix job (group_of hash job) gone m k) → PairRules (group_of hash job) rows job.n M
  unfolding matrix_of pow_mod
  written_good rows M e =
      (pair_rules (header_of hash job) rows M).0
      (pairs_good_lem (header_of hash job) rows M _ e
      (λ i j. root_element (group_of hash job) good _ (root_mul (group_of hash job) good _ _ (root_mod (group_of hash job) good _ (root_g0 (group_of hash job) good _)) (root_mod (group_of hash job) good _ (root_g1 (group_of hash job) good _))))
      (λ i j. root_element (group_of hash job) good _ (root_g1 (group_of hash job) good _)))

-- ---- the lengths of a ballot's parts
module _ (hash : List ℕ → List ℕ) (job : Job) (k : ℕ) where
  abbrev g : Parameters
  g = group_of hash job

  abbrev entry : (i j : ℕ) → Prover
  entry = entry_prover g job.n (k + 1) (rows_of job [] k) job.draws (job_draws job 0 k)

  abbrev row : (i : ℕ) → Prover
  row = row_prover g job.n (k + 1) (rows_of job [] k) job.draws (job_draws job 0 k)

  abbrev column : (j : ℕ) → Prover
  column = column_prover g job.n (k + 1) (rows_of job [] k) job.draws (job_draws job 0 k)

  abbrev the_pairs : List ℕ
  the_pairs = pair_bytes job.n (job_matrix job g [] 0 k) job.n

  abbrev the_entries : List ℕ
  the_entries = concat_below job.n (λ i. concat_below job.n (λ j. proof_bytes g (entry i j) hash job.label))

  abbrev the_rows : List ℕ
  the_rows = concat_below job.n (λ i. proof_bytes g (row i) hash job.label)

  abbrev the_columns : List ℕ
  the_columns = concat_below job.n (λ j. proof_bytes g (column j) hash job.label)

  two_length : length (the_entries ++ the_rows) ≡ job.n * (job.n * 32) + job.n * 16
  two_length =
      omega (
        arith,
        length-append the_entries the_rows,
        length_entries hash job.label g job.n (k + 1) (rows_of job [] k) job.draws (job_draws job 0 k),
        length_rows hash job.label g job.n (k + 1) (rows_of job [] k) job.draws (job_draws job 0 k),
      )

  abbrev the_proofs : List ℕ
  the_proofs = the_entries ++ the_rows ++ the_columns

  -- what an audited one shows
  abbrev the_exponents : List ℕ
  the_exponents = concat_below job.n (λ i. concat_below job.n (λ j. bytes4 (secret job 0 k i j)))

  abbrev the_places : List ℕ
  the_places = concat_below job.n (λ i. rows_of job [] k i ∷ [])

  abbrev the_shown : List ℕ
  the_shown = cond (is_audited (kind_of job k)) (audit_bytes job.n (rows_of job [] k) job.draws (job_draws job 0 k)) []

  body_length : length (the_pairs ++ the_proofs) ≡ 40 * (job.n * job.n) + 32 * job.n
  body_length =
      omega (
        arith,
        length-append the_pairs the_proofs,
        length_pairs job.n (job_matrix job g [] 0 k) job.n,
        length-append (the_entries ++ the_rows) the_columns,
        two_length,
        length_columns hash job.label g job.n (k + 1) (rows_of job [] k) job.draws (job_draws job 0 k),
      )

  -- ---- the record
  module _ (f : Fine hash job) (in_round : 0 < (plain_result job).rounds) (in_ballots : k < job.K)
      (s : List ℕ) (at : ℕ) (stands : Stands s at (job_ballot hash job g k)) where
    abbrev M : Matrix
    M = job_matrix job g [] 0 k

    after_kind : Stands s (at + 5) (the_pairs ++ the_proofs ++ the_shown)
    unfolding ballot_bytes ballot_proof_bytes
    after_kind = stands_right (66 ∷ 65 ∷ bytes2 (k + 1) ++ (kind_of job k ∷ [])) _ refl stands

    body : Stands s (at + 5) (the_pairs ++ the_proofs)
    body = stands_left (the_pairs ++ the_proofs) the_shown after_kind

    three : Stands s (at + 5 + 8 * (job.n * job.n)) the_proofs
    three = stands_right the_pairs the_proofs (length_pairs job.n M job.n) body

    two : Stands s (at + 5 + 8 * (job.n * job.n)) (the_entries ++ the_rows)
    two = stands_left (the_entries ++ the_rows) the_columns three

    pub ballot_matrix_lem : SameMatrix job.n job.n (ballot_matrix s job.n at) M
    ballot_matrix_lem = written_matrix hash job f [] 0 k s (at + 5) job.n (stands_left the_pairs the_proofs body)

    entry_stands : (i j : ℕ) → i < job.n → j < job.n → Stands s (entry_proof job.n at i j) (proof_bytes g (entry i j) hash job.label)
    entry_stands i j a b =
        stands_moved (omega arith)
        (stands_block job.n 32 _ (λ j _. length_proof hash job.label g (entry i j))
        (stands_block job.n (job.n * 32) _ (λ i _. length_proofs hash job.label g job.n 2 1 (entry i) (λ _. refl) (λ _. refl)) (stands_left the_entries the_rows two) i a) j b)

    row_stands : (i : ℕ) → i < job.n → Stands s (row_proof job.n at i) (proof_bytes g (row i) hash job.label)
    row_stands i a = stands_moved (omega arith) (stands_block job.n 16 _ (λ i _. length_proof hash job.label g (row i)) (stands_right the_entries the_rows (length_entries hash job.label g job.n (k + 1) (rows_of job [] k) job.draws (job_draws job 0 k)) two) i a)

    column_stands : (j : ℕ) → j < job.n → Stands s (column_proof job.n at j) (proof_bytes g (column j) hash job.label)
    column_stands j a = stands_moved (omega arith) (stands_block job.n 16 _ (λ i _. length_proof hash job.label g (column i)) (stands_right (the_entries ++ the_rows) the_columns two_length three) j a)

    numbered : number2 s (at + 2) ≡ k + 1
    unfolding ballot_bytes
    numbered = half_stands (omega (arith, f.K_high)) (stands_left (bytes2 (k + 1)) _ (stands_right (66 ∷ 65 ∷ []) _ refl stands))

    pub kind_read : kind_at s at ≡ kind_of job k
    unfolding ballot_bytes
    kind_read = stands.same 4 (omega arith)

    -- ---- what an audited record shows
    module _ (is_audited_lem : is_audited (kind_of job k) ≡ true) where
      audit_stands : Stands s (at + counted_length job.n) (the_exponents ++ the_places)
      unfolding audit_bytes
      audit_stands = stands_moved (omega arith) (rw is_audited_lem at (stands_right (the_pairs ++ the_proofs) the_shown body_length after_kind))

      pub exponent_read : (i j : ℕ) → i < job.n → j < job.n → shown_exponent s job.n at i j ≡ secret job 0 k i j
      exponent_read i j a b =
          word_stands (omega (arith, first_secret hash job f k in_round in_ballots i j a b, good_group hash job f))
          (stands_moved (omega arith)
          (stands_block job.n 4 (λ j. bytes4 (secret job 0 k i j)) (λ _ _. refl)
          (stands_block job.n (job.n * 4) _ (λ i _. length_blocks job.n 4 _ (λ _ _. refl)) (stands_left the_exponents the_places audit_stands) i a) j b))

      pub ranking_read : shown_ranking s job.n at ≡ ranking_of job k
      ranking_read =
          let wide : length the_exponents ≡ job.n * (job.n * 4) = length_blocks job.n (job.n * 4) _ (λ i _. length_blocks job.n 4 _ (λ _ _. refl)) in
          let long : length the_places ≡ job.n * 1 = length_blocks job.n 1 _ (λ _ _. refl) in
          let here : Stands s (at + counted_length job.n + 4 * (job.n * job.n)) the_places = stands_right the_exponents the_places (omega arith) audit_stands in
          part_stands {k = job.n} (omega arith) here
          ∙ rw (standing_all (ranking_of job k)) (places_joined job.n (ranking_of job k) (ranking_length job.n (ranking_of job k) (f.ranked k in_ballots)))

      shown_kept : ShownRules s (header_of hash job) at
      unfolding matrix_of
      shown_kept =
          record {
            small = λ i j a b. rw (exponent_read i j a b) (first_secret hash job f k in_round in_ballots i j a b);
            ranking = rw ranking_read (f.ranked k in_ballots);
            opens_b = λ i j a b. rw (exponent_read i j a b, ranking_read, ballot_matrix_lem.same_b i j a b, standing_all (ranking_of job k));
            opens_y = λ i j a b. rw (exponent_read i j a b) (ballot_matrix_lem.same_y i j a b);
          }

    pub ballot_kept : BallotRules hash s (header_of hash job) at (k + 1)
    unfolding ballot_bytes record_bytes record_length
    ballot_kept =
        record {
          fits = rw kind_read (omega (arith, stands.fits, length_record hash job g [] 0 0 k));
          marked = mark_stands stands;
          numbered = numbered;
          kinded = (kind_iff (kind_at s at)).0 (rw kind_read (f.kinds k in_ballots));
          pairs = written_good hash job f [] 0 k job.n _ ballot_matrix_lem;
          entry_fields = λ i j a b. honest_fields hash job.label g _ (entry_honest hash job f k in_round in_ballots i j a b) s _ (entry_stands i j a b);
          row_fields = λ i a. honest_fields hash job.label g _ (row_honest hash job f k in_round in_ballots i a) s _ (row_stands i a);
          column_fields = λ j b. honest_fields hash job.label g _ (column_honest hash job f k in_round in_ballots j b) s _ (column_stands j b);
          entries = λ i j a b.
              honest_holds hash job.label g _ (entry_honest hash job f k in_round in_ballots i j a b) s _ (entry_stands i j a b) _ (ap (λ (x : ℕ). ballot_context x (entry_place job.n i j)) numbered) _
              (λ l _ _ _. entry_same g job.n _ _ job.n i j l ballot_matrix_lem a b);
          rows = λ i a.
              honest_holds hash job.label g _ (row_honest hash job f k in_round in_ballots i a) s _ (row_stands i a) _ (ap (λ (x : ℕ). ballot_context x (row_place job.n i)) numbered) _
              (λ _ _ _ _. row_same g job.n _ _ job.n i ballot_matrix_lem a);
          columns = λ j b.
              honest_holds hash job.label g _ (column_honest hash job f k in_round in_ballots j b) s _ (column_stands j b) _ (ap (λ (x : ℕ). ballot_context x (column_place job.n j)) numbered) _
              (λ _ _ _ _. column_same g job.n _ _ j ballot_matrix_lem b);
          shown = λ e. shown_kept (rw kind_read at e);
        }
