-- The count, the measure, the draws and the room of a job that passed the tests up to its kinds, and what its reply and its output then are.
use Prim.Native.Nat.{ℕ, ◌+◌, ◌*◌, ◌≤◌, ◌<◌}
use mathlib.Core.Path.{◌≡◌, sym, ap, ◌∙◌}
use mathlib.Core.Bool.{Bool, true, false, ◌&&◌, and-eq-true_iff}
use mathlib.Core.List.{List}
use native.Mathlib.Omega.{arith}
use borrow.Author.Tests.{eqb-true, leb-true, lt-leb}
use lib.Dec.{leb, ltb, eqb}
use lib.ListN.{length, get_or}
use Rattle.std.specs.Prelude.{Err}
use Rattle.numbers.specs.Below.{all_below}
use Rattle.sha256.specs.Message.{sha256}
use Rattle.rules.specs.Header.{ranked}
use Rattle.rules.specs.Count as C
use Rattle.rules.specs.Answers.{refusal_number}
use Rattle.rules.specs.Tests.{first_fault}
use Rattle.jobs.specs.Job.{Job, kind_of, round_draws, needed, board_length, plain_result, round_at}
use Rattle.jobs.specs.Write.{draws_good, rounds_different, no_repeat, job_fault, job_refused, write_outcome, write_output, Passed, Valid}
use Rattle.jobs.specs.Replies.{outcome_of}
use Rattle.jobs.specs.declared.Unwritten.{Unwritten}
use Rattle.rules.proofs.Limits.{sizes_bounds}
use Rattle.count.specs.State.{result_of, Kept}
use Rattle.count.specs.declared.Ended.{Ended}
use Rattle.plain.specs.declared.rounds.Measure.{Measure}
use Rattle.validity.specs.Tests.{Stops}
use Rattle.validity.proofs.Tests.{plainly, kinds_many}
use Rattle.writer.specs.Steps.{Measured}

module _ (job : Job) where
  pub measured : (e : Ended) (m : Measure) → (result_of job.n e ≡ plain_result job) × Kept e.count × (e.count.gone.outs + 2 ≤ job.n) →
      (m.needed ≡ round_draws job.n (kind_of job) job.K (e.count.gone.outs + 1)) × (m.length ≡ round_at job.n (kind_of job) job.K (e.count.gone.outs + 1)) × (m.needed ≤ 10000000) →
      Measured job e m
  unfolding needed board_length result_of
  measured e m c s =
      record {
        counted = c.0;
        kept = c.1;
        needed = s.0 ∙ ap (λ (r : C.Result). round_draws job.n (kind_of job) job.K r.rounds) c.0;
        length = s.1 ∙ ap (λ (r : C.Result). round_at job.n (kind_of job) job.K r.rounds) c.0;
        small = s.2;
      }

  pub measured_rounds : {e : Ended} {m : Measure} → Measured job e m → e.count.gone.outs + 1 ≡ (plain_result job).rounds
  unfolding result_of
  measured_rounds w = ap (λ (r : C.Result). r.rounds) w.counted

  pub draws_are : {b : Bool} {k : ℕ} → k ≡ needed job →
      b ≡ (leb k (length job.draws) && all_below k (λ d. leb 1 (get_or job.draws d 0) && ltb (get_or job.draws d 0) job.q)) → b ≡ draws_good job
  draws_are e h =
      h ∙ ap (λ (k : ℕ). leb k (length job.draws) && all_below k (λ d. leb 1 (get_or job.draws d 0) && ltb (get_or job.draws d 0) job.q)) e

  pub enough : draws_good job ≡ true → needed job ≤ length job.draws
  enough h = leb-true _ _ ((and-eq-true_iff (leb (needed job) (length job.draws)) _).0 h).0

  pub repeats_are : (b : Bool) (rounds : ℕ) → rounds ≡ (plain_result job).rounds → b ≡ rounds_different job.n (kind_of job) job.K rounds job.draws → b ≡ no_repeat job
  repeats_are b rounds e h = h ∙ ap (λ (r : ℕ). rounds_different job.n (kind_of job) job.K r job.draws) e

  pub measurable : Passed sha256 job → (2 ≤ job.n) × (job.n ≤ 8) × (job.K ≤ 1000) × (job.K * job.n ≤ length job.rankings) × (job.K ≤ length job.kinds)
  measurable t =
      let b = sizes_bounds ranked job.n job.K t.sized in
      let long : length job.rankings ≡ job.K * job.n = eqb-true _ _ ((and-eq-true_iff (eqb (length job.rankings) (job.K * job.n)) _).0 t.ranked).0 in
      (b.0, b.1, b.3, omega arith, omega (arith, kinds_many job t.kinds))

module _ (job : Job) (out : List ℕ) where
  pub stops_draws : Passed sha256 job → draws_good job ≡ false → Stops job out 14 0
  unfolding job_fault first_fault
  stops_draws t e = plainly job out 13 (λ e. omega arith) (rw (t.sized, t.ordered, t.labelled, t.ranked, t.kinds, t.some_counted_lem, e))

  pub stops_repeat : Valid sha256 job → no_repeat job ≡ false → Stops job out 20 0
  unfolding job_fault first_fault
  stops_repeat v e =
      let t = v.passed in
      plainly job out 19 (λ e. omega arith) (rw (t.sized, t.ordered, t.labelled, t.ranked, t.kinds, t.some_counted_lem, v.drawn, e))

  pub stops_room : Valid sha256 job → no_repeat job ≡ true → (k : ℕ) → k ≡ board_length job → length out < k → Stops job out 15 0
  unfolding job_fault first_fault
  stops_room v d k w h =
      let t = v.passed in
      plainly job out 14 (λ e. omega arith) (rw (t.sized, t.ordered, t.labelled, t.ranked, t.kinds, t.some_counted_lem, v.drawn, d, lt-leb (board_length job) (length out) (omega (arith, w))))

-- what the contract says of a refusal, where the output is as it was
pub refuses : (job : Job) (o : List ℕ) (u v : Unwritten) → Stops job o (refusal_number v.refusal) v.ranking → u ≡ v →
    (outcome_of (Err u) ≡ write_outcome sha256 job (length o)) × (o ≡ write_output sha256 job o)
refuses job o u v s e = (ap (λ (u : Unwritten). job_refused (refusal_number u.refusal) u.ranking) e ∙ sym s.outcome, sym s.output)
