-- One round of a board after another.
use Prim.Native.Nat.{ℕ, zero, suc, ◌+◌, ◌-◌, ◌≤◌, ◌<◌}
use mathlib.Core.Path.{◌≡◌, refl, sym, ap, ◌∙◌}
use mathlib.Core.List.{List, [], ◌++◌}
use native.Mathlib.Nat.{zero-add, suc-add}
use native.Mathlib.Numerals.{add-one}
use native.Mathlib.Omega.{arith}
use borrow.Rule.Slice.PartMut.{mid_of, put_mid}
use lib.ListN.{length, get_or, take, length-append}
use lib.Seq.{get_or-take}
use Rattle.numbers.specs.Below.{sum_below, concat_below}
use Rattle.numbers.proofs.Blocks.{length_joined}
use Rattle.numbers.proofs.Sums.{sum_same}
use Rattle.group.specs.Elements.{Parameters}
use Rattle.rules.specs.Records.{record_length, sheet_length}
use Rattle.rules.specs.Count.{counts_of}
use Rattle.jobs.specs.Job as J
use Rattle.jobs.specs.Job.{kind_of, counted_rankings, record_draws, round_at}
use Rattle.jobs.specs.Records.{sheet_bytes}
use Rattle.jobs.specs.Board.{record_bytes, job_draws, job_sheet}
use Rattle.output.specs.Written.{written}
use Rattle.output.proofs.Laws.{joined_more}
use Rattle.ballots.proofs.Entries.{spread_part}
use Rattle.count.specs.declared.Count.{Count}
use Rattle.boards.specs.declared.records.RoundPlan.{RoundPlan}
use Rattle.boards.specs.Parts.{draws_before, bytes_before, Later, RoundReady, Planned, Writable, Sheeted, records_of, round_bytes, plan_bytes, plan_records}
use Rattle.jobs.proofs.Lengths.{length_record, length_sheet}
use Rattle.jobs.proofs.Draws.{draws_mono}
use Rattle.boards.proofs.Columns.{sheet_same}

-- rounds further on start further on
module _ (n : ℕ) (kind : ℕ → ℕ) (K : ℕ) where
  place_up : (m d : ℕ) → round_at n kind K m ≤ round_at n kind K (d + m)
  unfolding round_at
  place_up m zero = rw zero-add (omega arith)
  place_up m (suc d) = rw suc-add (omega (arith, place_up m d))

  pub place_mono : (m r : ℕ) → m ≤ r → round_at n kind K m ≤ round_at n kind K r
  place_mono m r h = let e : r - m + m ≡ r = omega arith in rw e at (place_up m (r - m))

  pub place_least : (m : ℕ) → 54 ≤ round_at n kind K m
  unfolding round_at
  place_least zero = omega arith
  place_least (suc m) = omega (arith, place_least m)

  pub place_next : (m : ℕ) → round_at n kind K (m + 1) ≡ round_at n kind K m + sum_below K (λ k. record_length n (kind k) m) + sheet_length n
  unfolding round_at
  place_next m = rw add-one

-- a round of a board that can be written can be
module _ (job : J.Job) (c : Count) (rounds m old new : ℕ) (t : RoundPlan) (a : Writable job c.gone.order rounds) (low : m < rounds)
    (w : Planned c m old new t) (own : new ≡ draws_before job m) (older : (j : ℕ) → m ≡ suc j → old ≡ draws_before job j) (near : old ≤ 10000000) where
  later : (j : ℕ) → m ≡ suc j → Later job t j
  later j e =
      let l = w.later j e in
      record {
        old = w.older ∙ older j e;
        struck = w.gone ∙ rw (e, l.0, l.1) (a.struck j (omega arith));
        low = rw l.1 (a.above j (omega arith));
        high = rw l.1 (a.below j (omega arith));
        left = λ k h. rw l.0 (a.left j k (omega arith) h);
        place = λ k h. rw (l.0, l.1) (a.place j k (omega arith) h);
      }

  upto : draws_before job (suc m) ≤ draws_before job rounds
  upto = draws_mono job.n (kind_of job) job.K (suc m) rounds low

  pub round_ready : RoundReady job t
  round_ready =
      record {
        n_high = a.n_high;
        K_high = a.K_high;
        listed = a.listed;
        kinds = a.kinds;
        early = omega (arith, a.few, w.round);
        before_listed = w.before_listed;
        gone_listed = w.gone_listed;
        drawn = rw w.round (spread_part job.q job.draws 0 _ 0 _ a.drawn (omega (arith, upto)));
        low = rw w.round (omega (arith, a.low, upto));
        old_low = rw w.older near;
        new = w.newer ∙ own ∙ ap (draws_before job) (sym w.round);
        first = λ e. w.gone ∙ ap (λ (i : ℕ). take i c.gone.order) (sym w.round ∙ e);
        later = λ j e. later j (sym w.round ∙ e);
      }

-- the sheet's draws start where the round's do
pub from_round : (job : J.Job) (g : Parameters) (t : RoundPlan) → t.new ≡ draws_before job t.m →
    sheet_bytes g.q job.n job.K (kind_of job) job.draws (λ b. t.new + sum_below b (λ i. record_draws job.n (kind_of job i) t.m)) t.m t.out t.sheet.counts
    ≡ job_sheet job g t.m t.out t.sheet.counts
from_round job g t e =
    ap (λ (x : ℕ). sheet_bytes g.q job.n job.K (kind_of job) job.draws (λ b. x + sum_below b (λ i. record_draws job.n (kind_of job i) t.m)) t.m t.out t.sheet.counts) e

module _ (hash : List ℕ → List ℕ) (job : J.Job) (g : Parameters) where
  -- the first so many records of a round
  pub length_records : (before : List ℕ) (a m b : ℕ) → length (concat_below b (record_bytes hash job g before a m)) ≡ sum_below b (λ k. record_length job.n (kind_of job k) m)
  length_records before a m b = length_joined b (record_bytes hash job g before a m) ∙ sum_same b _ _ (λ k h. length_record hash job g before a m k)

  -- what is planned of a round is the round
  module _ (c : Count) (m old new : ℕ) (t : RoundPlan) (w : Planned c m old new t) where
    records_are : plan_records hash job g t ≡ records_of hash job g c.gone.order m
    unfolding records_of
    records_are = go m refl
      where
        go : (i : ℕ) → m ≡ i → plan_records hash job g t ≡ records_of hash job g c.gone.order i
        go zero e = let f = w.first e in rw (f.0, f.1, w.round, e)
        go (suc j) e = let f = w.later j e in rw (f.0, f.1, w.round, e)

    pub plan_is : Sheeted job c → m ≤ c.gone.outs → plan_bytes hash job g t ≡ round_bytes hash job g c.gone.order m
    unfolding round_bytes
    plan_is counted few =
        let ec = w.sheet job.n _ (λ d. counted d m few) in
        rw (records_are, w.round, w.out)
        (ap (λ (x : List ℕ). records_of hash job g c.gone.order m ++ x)
        (sheet_same g.q job.n job.K (kind_of job) job.draws (job_draws job m) t.sheet.counts m (get_or c.gone.order m 0) (counts_of job.n (counted_rankings job) (take m c.gone.order))
        (λ i h. sym (get_or-take job.n t.sheet.counts i 0 h) ∙ ap (λ (x : List ℕ). get_or x i 0) ec)))

  module _ (order : List ℕ) where
    length_round : (m : ℕ) → length (records_of hash job g order m) ≡ sum_below job.K (λ k. record_length job.n (kind_of job k) m)
    unfolding records_of
    length_round zero = length_records [] 0 0 job.K
    length_round (suc m) = length_records (take m order) (get_or order m 0) (suc m) job.K

    pub length_rounds : (m : ℕ) → length (concat_below m (round_bytes hash job g order)) + 54 ≡ bytes_before job m
    unfolding round_at concat_below round_bytes
    length_rounds zero = refl
    length_rounds (suc m) =
        let counts = counts_of job.n (counted_rankings job) (take m order) in
        let s = job_sheet job g m (get_or order m 0) counts in
        omega (
          arith,
          length-append (concat_below m (round_bytes hash job g order)) (round_bytes hash job g order m),
          length-append (records_of hash job g order m) s,
          length_round m,
          length_sheet g.q job.n job.K (kind_of job) job.draws (job_draws job m) m (get_or order m 0) counts,
          length_rounds m,
        )

    -- one round more
    pub rounds_more : (m at : ℕ) (o l x y : List ℕ) → at + 54 ≡ bytes_before job m → l ≡ written (concat_below m (round_bytes hash job g order)) o →
        y ≡ round_bytes hash job g order m → x ≡ written y (mid_of at (length l - at) l) → put_mid at (length l - at) l x ≡ written (concat_below (m + 1) (round_bytes hash job g order)) o
    rounds_more m at o l x y ea el ey ex =
        joined_more (round_bytes hash job g order) m at o l x (omega (arith, length_rounds m)) el (rw ey at ex)

pub length_header : (label : List ℕ) → length label ≡ 32 → suc (suc (suc (suc (suc (suc (suc (suc (suc (suc (suc (suc (suc (suc (suc (suc (suc (suc (suc (suc (suc (suc (length label))))))))))))))))))))))
    ≡ 54
length_header label e = rw e
