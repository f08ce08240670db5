-- The record of a shift that a job writes keeps its rules, wherever it and the record a round earlier stand.
use Prim.Native.Nat.{ℕ, suc, ◌+◌, ◌-◌, ◌≤◌, ◌<◌}
use native.Mathlib.Omega.{arith}
use mathlib.Core.Path.{◌≡◌, refl, ap}
use mathlib.Core.Bool.{true}
use mathlib.Core.List.{List, [], ◌∷◌, ◌++◌}
use lib.ListN.{length}
use Rattle.group.specs.Elements.{Parameters}
use Rattle.rules.specs.Bytes.{number2, bytes2, Stands}
use Rattle.rules.specs.Records.{is_counted, shift_length}
use Rattle.rules.specs.Claims.{Matrix, matrix_at}
use Rattle.rules.specs.Shift.{shift_proof, shift_context}
use Rattle.rules.proofs.Places.{stands_left, stands_right, stands_moved, half_stands}
use Rattle.jobs.specs.Job.{Job, group_of, header_of, ranking_of, kind_of, remaining, plain_result, rows_of, row_of}
use Rattle.jobs.specs.Board.{job_draws, job_matrix, job_shift}
use Rattle.jobs.specs.Prover.{proof_bytes}
use Rattle.jobs.specs.Records.{pair_bytes, shift_prover, shift_bytes}
use Rattle.jobs.proofs.FineJob.{Fine}
use Rattle.jobs.proofs.Rankings.{times}
use Rattle.jobs.proofs.Matrices.{SameMatrix, shift_same}
use Rattle.jobs.proofs.Lengths.{length_pairs, length_shift}
use Rattle.whole.specs.Rules.{ShiftRules}
use Rattle.whole.proofs.Complete.Honest.{honest_fields, honest_holds}
use Rattle.whole.proofs.Complete.WrittenShift.{shift_honest}
use Rattle.whole.proofs.Complete.BallotRecord.{mark_stands, written_matrix, written_good}

module _ (hash : List ℕ → List ℕ) (job : Job) (before : List ℕ) (a m k : ℕ) where
  abbrev g : Parameters
  g = group_of hash job

  abbrev R : ℕ
  R = job.n - suc m

  abbrev new : Matrix
  new = job_matrix job g (before ++ (a ∷ [])) (suc m) k

  abbrev the_pairs : List ℕ
  the_pairs = pair_bytes job.n new R

  abbrev the_proof : List ℕ
  the_proof = proof_bytes g (shift_prover g job.n R (suc m + 1) (k + 1) (rows_of job before k) (rows_of job (before ++ (a ∷ [])) k) (row_of a (remaining before (ranking_of job k))) (a - 1) job.draws (job_draws job m k) (job_draws job (suc m) k)) hash job.label

  module _ (f : Fine hash job) (in_round : suc m < (plain_result job).rounds) (in_ballots : k < job.K) (is_counted_lem : is_counted (kind_of job k) ≡ true) (rows : suc m ≤ job.n)
      (a_low : 1 ≤ a) (a_high : a ≤ job.n)
      (a_once : times a (remaining before (ranking_of job k)) ≡ 1) (short : length (remaining before (ranking_of job k)) ≤ job.n - m)
      (s : List ℕ) (at old : ℕ) (old_read : SameMatrix (job.n - m) job.n (matrix_at s job.n old) (job_matrix job g before m k))
      (stands : Stands s at (job_shift hash job g before a m k)) where
    after_number : Stands s (at + 4) (the_pairs ++ the_proof)
    unfolding shift_bytes
    after_number = stands_right (83 ∷ 72 ∷ bytes2 (k + 1)) _ refl stands

    pub shift_matrix : SameMatrix R job.n (matrix_at s job.n (at + 4)) new
    shift_matrix = written_matrix hash job f (before ++ (a ∷ [])) (suc m) k s (at + 4) R (stands_left the_pairs the_proof after_number)

    proof_stands : Stands s (shift_proof job.n R at) the_proof
    proof_stands = stands_moved (omega arith) (stands_right the_pairs the_proof (length_pairs job.n new R) after_number)

    numbered : number2 s (at + 2) ≡ k + 1
    unfolding shift_bytes
    numbered = half_stands (omega (arith, f.K_high)) (stands_left (bytes2 (k + 1)) _ (stands_right (83 ∷ 72 ∷ []) _ refl stands))

    pub shift_kept : ShiftRules hash s (header_of hash job) R at (suc m + 1) a old (k + 1)
    unfolding shift_bytes
    shift_kept =
        let e : job.n - m ≡ R + 1 = omega arith in
        let long : length (job_shift hash job g before a m k) ≡ shift_length job.n R = length_shift hash job.label g job.n R (suc m + 1) (k + 1) _ _ _ _ job.draws _ _ in
        let honest = shift_honest hash job f before a m k in_round in_ballots is_counted_lem rows a_low a_once short in
        record {
          fits = omega (arith, stands.fits, long);
          marked = mark_stands stands;
          numbered = numbered;
          pairs = written_good hash job f (before ++ (a ∷ [])) (suc m) k R _ shift_matrix;
          proof_fields_lem = honest_fields hash job.label g _ honest s _ proof_stands;
          proof = honest_holds hash job.label g _ honest s _ proof_stands _ (ap (shift_context (suc m + 1)) numbered) _
              (λ l i b c. shift_same g job.n _ _ _ _ R (a - 1) l i (rw e at old_read) shift_matrix (omega arith) b c);
        }
