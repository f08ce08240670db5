-- The board that is written is the job's.
use Prim.Native.Nat.{ℕ, ◌+◌, ◌*◌, ◌≤◌, ◌<◌}
use mathlib.Core.Path.{◌≡◌, sym, ap, subst, ◌∙◌}
use mathlib.Core.Bool.{and-eq-true_iff, true}
use mathlib.Core.List.{List, ◌++◌}
use native.Mathlib.Omega.{arith}
use borrow.Author.Tests.{eqb-true}
use lib.Dec.{eqb}
use Rattle.std.specs.Prelude.{Ok}
use lib.ListN.{length, drop, length-append}
use Rattle.numbers.specs.Below.{concat_below}
use Rattle.sha256.specs.Message.{sha256}
use Rattle.group.specs.Elements.{Parameters}
use Rattle.rules.specs.Answers.{with_zeros}
use Rattle.rules.specs.Count.{Result, is_ranking}
use Rattle.jobs.specs.Job.{Job, group_of, ranking_of, kind_of, counted_rankings, needed, board_length, plain_result, round_draws, round_at}
use Rattle.jobs.specs.Board.{header_bytes, board_bytes, board}
use Rattle.jobs.specs.Write.{no_repeat, board_written, job_fault, write_outcome, write_output, Valid}
use Rattle.jobs.specs.Replies.{outcome_of, order_written}
use Rattle.jobs.specs.declared.Written.{Written}
use Rattle.rules.proofs.Orders.{orders_of_test}
use Rattle.jobs.proofs.FineJob.{fine, good_group, no_refusal}
use Rattle.count.specs.State.{list_of, result_of}
use Rattle.count.specs.declared.Ended.{Ended}
use Rattle.count.proofs.Picks.{padded_order}
use Rattle.plain.proofs.Sheets.{sheets_are}
use Rattle.validity.proofs.Tests.{kinds_many}
use Rattle.plain.specs.declared.rounds.Measure.{Measure}
use Rattle.output.specs.Written.{written}
use Rattle.boards.specs.Parts.{Writable, Sheeted, round_bytes}
use Rattle.boards.proofs.Walk.{rounds_are, few_rounds, goes_out, left, struck_below}
use Rattle.boards.proofs.RoundPlans.{length_rounds, length_header, place_least}
use Rattle.writer.specs.Steps.{Measured}
use Rattle.writer.proofs.Outcomes.{measured_rounds, enough}

-- a job with the numbers of a group
abbrev in_group : Job → Parameters → Job
in_group job g =
    record { n = job.n; K = job.K; p = g.p; q = g.q; g0 = g.g0; counter = job.counter; label = job.label; rankings = job.rankings; kinds = job.kinds; draws = job.draws }

-- the bytes that the code writes for a job
abbrev pub bytes_for : Job → Parameters → (order : List ℕ) (rounds : ℕ) → List ℕ
bytes_for job g order rounds = header_bytes sha256 (in_group job g) g ++ concat_below rounds (round_bytes sha256 (in_group job g) g order)

written_at : (w o : List ℕ) (k : ℕ) → length w ≡ k → written w o ≡ w ++ drop k o
unfolding written
written_at w o k e = rw e

module _ (job : Job) (v : Valid sha256 job) where
  many : 2 ≤ job.n
  many = (fine sha256 job v).n_low

  ranked : (k : ℕ) → k < job.K → is_ranking job.n (ranking_of job k) ≡ true
  ranked = (fine sha256 job v).ranked

  able : (order : List ℕ) (rounds : ℕ) → order ≡ with_zeros (plain_result job).order → rounds ≡ (plain_result job).rounds → round_draws job.n (kind_of job) job.K rounds ≤ 10000000 → Writable job order rounds
  unfolding needed
  able order rounds eo er low =
      let f = fine sha256 job v in
      let d = (and-eq-true_iff (eqb (length job.rankings) (job.K * job.n)) _).0 v.passed.ranked in
      let q = (orders_of_test job.n job.K job.p job.q f.ordered).prime_q.large in
      let g = good_group sha256 job f in
      rw (eo, er)
      (record {
        n_low = f.n_low;
        n_high = f.n_high;
        K_high = f.K_high;
        listed = eqb-true _ _ d.0;
        kinds = kinds_many job v.passed.kinds;
        few = few_rounds sha256 job (group_of sha256 job) ranked many;
        drawn =
            record {
              positive = omega arith;
              low = omega (arith, g.small, g.q_below);
              near = omega (arith, rw er at low);
              enough = omega (arith, enough job v.drawn);
              below = λ i h. (f.drawn i (omega arith)).1;
            };
        low = rw er at low;
        struck = λ j h. (goes_out sha256 job (group_of sha256 job) ranked many j h).0;
        above = λ j h. (goes_out sha256 job (group_of sha256 job) ranked many j h).1.low;
        below = λ j h. (goes_out sha256 job (group_of sha256 job) ranked many j h).1.high;
        left = λ j k h b. left sha256 job (group_of sha256 job) ranked many j h k b;
        place = λ j k h b. struck_below sha256 job (group_of sha256 job) ranked many j h k b;
      })

  -- the bytes that were written are the board
  abbrev made : List ℕ
  made = bytes_for job (group_of sha256 job) (with_zeros (plain_result job).order) (plain_result job).rounds

  is_board : made ≡ board sha256 job
  unfolding board board_bytes
  is_board = ap (λ (x : List ℕ). header_bytes sha256 job (group_of sha256 job) ++ x) (sym (rounds_are sha256 job (group_of sha256 job) ranked many))

  made_long : length (made) ≡ board_length job
  unfolding board_length
  made_long =
      let G = group_of sha256 job in
      let B = concat_below (plain_result job).rounds (round_bytes sha256 job G (with_zeros (plain_result job).order)) in
      let head : length (header_bytes sha256 job G) ≡ 54 = length_header job.label (fine sha256 job v).labelled in
      omega (arith, length-append (header_bytes sha256 job G) B, length_rounds sha256 job G (with_zeros (plain_result job).order) (plain_result job).rounds)

  -- by the count and the measure of the job, and a group that is its own
  module _ (c : Ended) (m : Measure) (w : Measured job c m) (g : Parameters) (e : g ≡ group_of sha256 job) where
    abbrev rounds : ℕ
    rounds = c.count.gone.outs + 1

    rounds_counted : rounds ≡ (plain_result job).rounds
    rounds_counted = measured_rounds job w

    order_counted : c.count.gone.order ≡ with_zeros (plain_result job).order
    unfolding result_of
    order_counted = padded_order c.count.gone w.kept.listed ∙ ap (λ (r : Result). with_zeros r.order) w.counted

    pub can : Writable (in_group job g) c.count.gone.order rounds
    unfolding needed
    can =
        subst (λ (x : Parameters). Writable (in_group job x) c.count.gone.order rounds) (sym e)
        (able c.count.gone.order rounds order_counted rounds_counted (rw (rounds_counted, ← w.needed) w.small))

    pub sheeted : Sheeted (in_group job g) c.count
    sheeted = sheets_are job.n (counted_rankings job) c w.counted

    pub room : (54 ≤ m.length) × (round_at job.n (kind_of job) job.K rounds ≤ m.length)
    unfolding board_length
    room = let long : round_at job.n (kind_of job) job.K rounds ≡ m.length = rw rounds_counted (sym w.length) in (omega (arith, place_least job.n (kind_of job) job.K rounds), omega arith)

    -- past the board the output is as it was
    wrote : (o : List ℕ) → written (bytes_for job g c.count.gone.order rounds) o ≡ board sha256 job ++ drop (board_length job) o
    wrote o =
        let same : bytes_for job g c.count.gone.order rounds ≡ board sha256 job = (λ i. bytes_for job (e i) (order_counted i) (rounds_counted i)) ∙ is_board in
        ap (λ (x : List ℕ). written x o) same ∙ written_at (board sha256 job) o (board_length job) (ap length (sym is_board) ∙ made_long)

    -- no test fails: the answer is the board's, and what was written is the output
    module _ (d : no_repeat job ≡ true) (o : List ℕ) (h : m.length ≤ length o) where
      none : job_fault sha256 job (length o) ≡ 0
      none = no_refusal sha256 job (length o) v d (omega (arith, w.length))

      pub writes : written (bytes_for job g c.count.gone.order rounds) o ≡ write_output sha256 job o
      unfolding write_output
      writes = rw none (wrote o)

      pub told : (r : Written) → (outcome_of (Ok r) ≡ board_written m.length rounds (list_of c.count.gone) c.winner) × (r.order ≡ c.count.gone.order) →
          (outcome_of (Ok r) ≡ write_outcome sha256 job (length o)) × (r.order ≡ order_written (write_outcome sha256 job (length o)))
      unfolding write_outcome result_of
      told r t =
          let same : board_written m.length rounds (list_of c.count.gone) c.winner ≡ board_written (board_length job) (plain_result job).rounds (plain_result job).order (plain_result job).winner =
          λ i. board_written (w.length i) (w.counted i).rounds (w.counted i).order (w.counted i).winner in
          (rw none (t.0 ∙ same), rw none (t.1 ∙ order_counted))
