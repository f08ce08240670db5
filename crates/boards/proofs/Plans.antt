-- A ballot's records, from what the code works out.
use Prim.Native.Nat.{ℕ, zero, suc, ◌+◌, ◌*◌, ◌-◌, ◌≤◌, ◌<◌}
use mathlib.Core.Path.{◌≡◌, ap, ◌∙◌, fun_ext}
use mathlib.Core.List.{List, [], ◌∷◌, ◌++◌}
use native.Mathlib.Omega.{arith}
use borrow.Author.Tests.{eq-eqb, ne_eqb}
use lib.ListN.{length, take, replicate, get_or}
use lib.Seq.{take_at}
use Rattle.sha256.specs.Message.{sha256}
use Rattle.group.specs.Elements.{Parameters}
use Rattle.rules.specs.Answers.{with_zeros}
use Rattle.jobs.specs.Job.{Job, remaining, row_of, ranking_of, kind_of, record_draws, rows_of}
use Rattle.jobs.specs.Board.{record_bytes, job_draws}
use Rattle.proving.specs.Plans.{DrawsBelow}
use Rattle.ballots.specs.declared.shift.Shift.{Shift}
use Rattle.ballots.specs.Parts.{Shifting, shift_of}
use Rattle.ballots.proofs.Entries.{spread_part}
use Rattle.jobs.proofs.Draws.{draws_within, counted_within, round_more}
use Rattle.jobs.specs.Records.{ballot_bytes, shift_bytes}
use Rattle.plain.proofs.Lists.{padded_at}
use Rattle.count.specs.State.{list_of}
use Rattle.boards.specs.declared.records.Turn.{Turn}
use Rattle.boards.specs.Parts.{draws_before, Later, TurnReady}

-- the whole of a list stands at the front of it padded
pub front_of : (l : List ℕ) (n : ℕ) → length l ≡ n → take n (with_zeros l) ≡ l
unfolding with_zeros
front_of l n e = take_at l (replicate (8 - length l) 0) n e

place_is : (a size n p : ℕ) (list l : List ℕ) → p ≡ row_of a (take size list) → list ≡ with_zeros l → size ≡ n → length l ≡ n → p ≡ row_of a l
place_is a size n p list l ep el es en = ep ∙ rw (el, es, front_of l n en)

-- the rows of an array of 8 that holds them
rows_are : (job : Job) (gone : List ℕ) (k : ℕ) (list : List ℕ) → list ≡ with_zeros (remaining gone (ranking_of job k)) → (λ (i : ℕ). get_or list i 0) ≡ rows_of job gone k
rows_are job gone k list e = fun_ext (λ i. ap (λ (l : List ℕ). get_or l i 0) e ∙ padded_at (remaining gone (ranking_of job k)) i)

pub ballot_is : (job : Job) (g : Parameters) (k m number from : ℕ) (before gone : List ℕ) (a : ℕ) (list : List ℕ) → m ≡ 0 → number ≡ k + 1 →
    from ≡ job_draws job 0 k → gone ≡ [] → list ≡ with_zeros (remaining gone (ranking_of job k)) →
    ballot_bytes sha256 job.label g job.n number (kind_of job k) (λ i. get_or list i 0) job.draws from ≡ record_bytes sha256 job g before a m k
unfolding record_bytes
ballot_is job g k m number from before gone a list em en ef eg e =
    rw (em, en, ef)
    (ap (λ (f : ℕ → ℕ). ballot_bytes sha256 job.label g job.n (k + 1) (kind_of job k) f job.draws (job_draws job 0 k)) (rows_are job [] k list (rw eg at e)))

-- an audited ballot has no record in a later round
pub none_later : (job : Job) (g : Parameters) (before : List ℕ) (a m k : ℕ) → 0 < m → (kind_of job k ≡ 0 → ⊥) → [] ≡ record_bytes sha256 job g before a m k
unfolding record_bytes
none_later job g before a zero k h c = absurd (omega arith)
none_later job g before a (suc m) k h c = rw (ne_eqb (kind_of job k) 0 c)

module _ (job : Job) (k j : ℕ) (before : List ℕ) (a : ℕ) (s : Shift) (counted : kind_of job k ≡ 0)
    (en : s.n ≡ job.n) (er : s.rows ≡ job.n - suc j) (ero : s.round ≡ suc j + 1) (enu : s.number ≡ k + 1)
    (eb : s.before ≡ with_zeros (remaining before (ranking_of job k))) (ea : s.after ≡ with_zeros (remaining (before ++ (a ∷ [])) (ranking_of job k)))
    (es : s.struck ≡ row_of a (remaining before (ranking_of job k))) (ec : s.column ≡ a - 1)
    (eo : s.old ≡ job_draws job j k) (ew : s.new ≡ job_draws job (suc j) k) where
  later_is : (g : Parameters) (m : ℕ) → m ≡ suc j → shift_of job.label g s job.draws ≡ record_bytes sha256 job g before a m k
  unfolding record_bytes
  later_is g m e =
      let eb' = rows_are job before k s.before eb in
      let ea' = rows_are job (before ++ (a ∷ [])) k s.after ea in
      rw (e, eq-eqb (kind_of job k) 0 counted)
      (λ i. shift_bytes sha256 job.label g (en i) (er i) (ero i) (enu i) (eb' i) (ea' i) (es i) (ec i) job.draws (eo i) (ew i))

  shifting : (p : ℕ) → 0 < p → job.n ≤ 8 → suc j + 2 ≤ job.n → k < job.K → 1 ≤ a → a ≤ job.n → row_of a (remaining before (ranking_of job k)) < job.n - j →
      DrawsBelow job.q job.draws 0 (draws_before job (suc (suc j))) → Shifting p job.q s job.draws
  unfolding record_draws
  shifting p hp few early low one high place d =
      let is = eq-eqb (kind_of job k) 0 counted in
      let here = draws_within job.n (kind_of job) job.K (suc j) k low in
      let there = draws_within job.n (kind_of job) job.K j k low in
      let inner = counted_within job.n (kind_of job k) j is in
      let more = round_more job.n (kind_of job) job.K (suc j) in
      let rows : s.rows + 1 ≡ job.n - j = omega arith in
      let cells : (s.rows + 1) * s.n ≡ (job.n - j) * job.n = rw (rows, en) in
      let long : s.rows * s.n + (s.rows + 1) * (3 + s.rows * s.n) - 1 ≡ record_draws job.n (kind_of job k) (suc j) = rw (er, en, is) (omega arith) in
      record {
        modulus = hp;
        some = omega arith;
        few = omega arith;
        left = omega arith;
        fewer = omega arith;
        inside = omega arith;
        within = omega arith;
        olds = rw cells (spread_part job.q job.draws 0 _ s.old ((job.n - j) * job.n) d (omega arith));
        news = rw long (spread_part job.q job.draws 0 _ s.new (record_draws job.n (kind_of job k) (suc j)) d (omega arith));
      }

-- the shift that is made of a counted ballot in a later round, and what it writes
module _ {job : Job} {t : Turn} (p : TurnReady job t) (h : 0 < t.plan.m) (s : Shift) (counted : kind_of job t.b ≡ 0)
    (en : s.n ≡ job.n) (er : s.rows ≡ job.n - t.plan.m) (ero : s.round ≡ t.plan.m + 1) (enu : s.number ≡ t.b + 1)
    (eb : s.before ≡ with_zeros (remaining (list_of t.plan.before) (ranking_of job t.b))) (ea : s.after ≡ with_zeros (remaining (list_of t.plan.gone) (ranking_of job t.b)))
    (es : s.struck ≡ row_of t.plan.a (take (job.n - t.plan.m + 1) s.before)) (ec : s.column ≡ t.plan.a - 1) (eo : s.old ≡ t.old) (ew : s.new ≡ t.new) where
  abbrev was : ℕ
  was = t.plan.m - 1

  next : t.plan.m ≡ suc was
  next = omega arith

  left : Later job t.plan was
  left = p.round.later was next

  rows : s.rows ≡ job.n - suc was
  rows = er ∙ rw (← next)

  round : s.round ≡ suc was + 1
  round = ero ∙ ap (λ (m : ℕ). m + 1) next

  after : s.after ≡ with_zeros (remaining (list_of t.plan.before ++ (t.plan.a ∷ [])) (ranking_of job t.b))
  after = ea ∙ rw left.struck

  struck : s.struck ≡ row_of t.plan.a (remaining (list_of t.plan.before) (ranking_of job t.b))
  struck =
      let n : job.n - t.plan.m + 1 ≡ job.n - was = omega (arith, p.round.early) in
      place_is t.plan.a _ (job.n - was) _ _ _ es eb n (left.left t.b p.below)

  old : s.old ≡ job_draws job was t.b
  old = eo ∙ p.old was next

  new : s.new ≡ job_draws job (suc was) t.b
  new = ew ∙ p.new ∙ ap (λ (m : ℕ). job_draws job m t.b) next

  pub made_is : (g : Parameters) → shift_of job.label g s job.draws ≡ record_bytes sha256 job g (list_of t.plan.before) t.plan.a t.plan.m t.b
  made_is g = later_is job t.b was (list_of t.plan.before) t.plan.a s counted en rows round enu eb after struck ec old new g t.plan.m next

  pub made_ready : (q : ℕ) → 0 < q → Shifting q job.q s job.draws
  made_ready q hq =
      shifting job t.b was (list_of t.plan.before) t.plan.a s counted en rows round enu eb after struck ec old new
      q hq p.round.n_high (rw (← next) p.round.early) p.below left.low left.high (left.place t.b p.below) (rw (← next) p.round.drawn)
