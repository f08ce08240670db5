-- When 20 is due; small groups; and that the Y of a written matrix differ.
use Prim.Native.Nat.{ℕ, zero, suc, ◌+◌, ◌*◌, ◌-◌, ◌≤◌, ◌<◌, zero-le}
use mathlib.Core.Path.{◌≡◌, refl, sym, ap, subst⁻¹, ◌∙◌}
use mathlib.Core.Bool.{true, false, true≢false}
use mathlib.Core.List.{List, [], ◌∷◌}
use native.Mathlib.Nat.{mul-le-mul_right, mod-eq_of_lt, sub-zero}
use native.Mathlib.Omega.{arith}
use lib.Dec.{ltb, eqb}
use lib.ListN.{length}
use borrow.Author.Tests.{ltb-true, ltb-false, ne_eqb}
use Rattle.numbers.proofs.RootsOfUnity.{same_exponent}
use Rattle.numbers.proofs.Sums.{different_few}
use Rattle.numbers.proofs.Tests.{by_cases, all_at, all_fails, one_fails}
use Rattle.group.specs.Arithmetic.{pow_mod}
use Rattle.rules.specs.Records.{records_of}
use Rattle.rules.specs.Count.{member}
use Rattle.rules.specs.Header.{Header}
use Rattle.rules.specs.Tests.{first_fault}
use Rattle.rules.specs.Check.{matrix}
use Rattle.rules.proofs.Faults.{fault_cases, fault_none}
use Rattle.rules.proofs.Lists.{member_append}
use Rattle.rules.proofs.Orders.{orders_of_test, generators_of_test}
use Rattle.jobs.specs.Job.{Job, group_of, header_of, kind_of, record_secrets, draw, plain_result}
use Rattle.jobs.specs.Board.{job_draws, board}
use Rattle.jobs.specs.Records.{matrix_of}
use Rattle.jobs.specs.Write.{different, no_repeat, Valid, job_fault, bad_ranking, job_refused, write_outcome, write_output}
use Rattle.rules.proofs.Positions.{has_first, has_counted}
use Rattle.jobs.proofs.Draws.{secrets_within, secrets_are}
use Rattle.jobs.proofs.FineJob.{Fine, fine, fault_by}
use Rattle.jobs.proofs.Repeats.{different_at, different_fails, different_same, one_repeats}
use Rattle.whole.specs.SecondDemand.{HasRecord}
use Rattle.whole.specs.Repeats.{Repeat, DifferentY, Repeats}
use Rattle.whole.proofs.Complete.{header_same, kinds_same, ballot_stands, begun, in_first}
use Rattle.whole.proofs.Complete.BallotRecord.{ballot_matrix_lem}
use Rattle.whole.proofs.Complete.Rounds.{rounds}
use Rattle.whole.proofs.Complete.Written.{secret, draw_at, in_matrix, secret_at_lem}

-- ---- the test, said of two draws
module _ (job : Job) where
  repeat_of : no_repeat job ≡ false → Repeat job
  repeat_of h =
      let a = one_fails (plain_result job).rounds _ h in
      let b = one_fails job.K _ a.2 in
      let c = one_repeats job.draws (job_draws job a.0 b.0) _ b.2 in
      record { m = a.0; k = b.0; i = c.0; j = c.1; in_rounds = a.1; in_ballots = b.1; earlier = c.2; in_matrix = c.3; equal = c.4 }

  of_repeat : Repeat job → no_repeat job ≡ false
  of_repeat r =
      all_fails (plain_result job).rounds r.m _ r.in_rounds
      (all_fails job.K r.k _ r.in_ballots
      (different_fails job.draws (job_draws job r.m r.k) (record_secrets job.n (kind_of job r.k) r.m) r.i r.j r.earlier r.in_matrix r.equal))

  -- the x of a matrix of a job without repeats
  apart : no_repeat job ≡ true → (m k : ℕ) → m < (plain_result job).rounds → k < job.K → different job.draws (job_draws job m k) (record_secrets job.n (kind_of job k) m) ≡ true
  apart h m k a b = all_at job.K _ (all_at (plain_result job).rounds _ h m a) k b

module _ (hash : List ℕ → List ℕ) (job : Job) where
  due : (room : ℕ) → job_fault hash job room ≡ 20 → Valid hash job × Repeat job
  unfolding member
  due room =
      let P : ℕ → Type 0 = λ x. x ≡ 20 → Valid hash job × Repeat job in
      fault_by P hash job room (λ x l z. absurd (true≢false (sym (rw z at l))))
      (λ v. fault_cases P _ _ (λ bad _. (v, repeat_of job bad)) (λ _. fault_cases P _ _ (λ _ z. absurd (omega arith)) (λ _. rw fault_none (λ z. absurd (omega arith)))))

  is_due : (room : ℕ) → Valid hash job → Repeat job → job_fault hash job room ≡ 20
  unfolding job_fault first_fault
  is_due room v r = let t = v.passed in rw (t.sized, t.ordered, t.labelled, t.ranked, t.kinds, t.some_counted_lem, v.drawn, of_repeat job r)

  -- the first ballot's matrix has n² x, each from 1 to q - 1
  first_many : Valid hash job → no_repeat job ≡ true → job.n * job.n ≤ job.q - 1
  first_many v h =
      let f = fine hash job v in
      let first = in_first hash job f in
      let size : record_secrets job.n (kind_of job 0) 0 ≡ job.n * job.n = secrets_are job.n (kind_of job 0) 0 (has_first (kind_of job 0)) ∙ rw sub-zero in
      let alone = rw size at (apart job h 0 0 first f.K_low) in
      different_few (job.n * job.n) (job.q - 1) (λ i. draw job (job_draws job 0 0 + i))
      (λ i l. let w = draw_at hash job f 0 0 first f.K_low i _ (omega (arith, secrets_within job.n (kind_of job 0) 0, size)) refl in (w.0, omega (arith, w.1)))
      (λ i j a b. different_at job.draws (job_draws job 0 0) (job.n * job.n) alone j b i a)

  -- the refusals up to 20
  abbrev Early : (number : ℕ) → Type 0
  Early number = member number (3 ∷ 4 ∷ 5 ∷ 13 ∷ 17 ∷ 19 ∷ 14 ∷ 20 ∷ []) ≡ true

  early : (room : ℕ) → job.q - 1 < job.n * job.n → Early (job_fault hash job room)
  unfolding member
  early room small =
      fault_by Early hash job room (λ x l. member_append x (3 ∷ 4 ∷ 5 ∷ 13 ∷ 17 ∷ 19 ∷ 14 ∷ []) (20 ∷ []) ∙ rw l)
      (λ v. fault_cases Early _ _ (λ _. refl) (λ h. absurd (omega (arith, first_many v h))))

  turned_down : (out : List ℕ) → job.q - 1 < job.n * job.n →
      (number ranking : ℕ) × Early number × (write_outcome hash job (length out) ≡ job_refused number ranking) × (write_output hash job out ≡ out)
  unfolding write_outcome write_output member
  turned_down out small =
      let fault = job_fault hash job (length out) in
      let e = early (length out) small in
      let some : eqb fault 0 ≡ false = ne_eqb fault 0 (λ z. true≢false (sym (rw z at e))) in
      (fault, bad_ranking job fault, e, rw some, rw some)

-- ---- the Y of a written board
-- a place of a matrix is one row and one column
same_place : (n i j i' j' : ℕ) → j < n → j' < n → i * n + j ≡ i' * n + j' → (i ≡ i') × (j ≡ j')
same_place n i j i' j' a b e =
    by_cases (ltb i i')
    (λ l. let up : (i + 1) * n ≤ i' * n = mul-le-mul_right n (omega (arith, ltb-true i i' l)) in absurd (omega arith))
    (λ l. by_cases (ltb i' i)
    (λ l'. let up : (i' + 1) * n ≤ i * n = mul-le-mul_right n (omega (arith, ltb-true i' i l')) in absurd (omega arith))
    (λ l'. let row : i ≡ i' = omega (arith, ltb-false i i' l, ltb-false i' i l') in (row, omega (arith, ap (λ (t : ℕ). t * n) row))))

module _ (hash : List ℕ → List ℕ) (job : Job) (f : Fine hash job) where
  abbrev s : List ℕ
  s = board hash job

  abbrev h : Header
  h = header_of hash job

  -- the Y that stand there are powers of the draws
  power : (m k : ℕ) → m < (plain_result job).rounds → k < job.K → records_of (kind_of job k) m ≡ 1 →
      (i j : ℕ) → i < job.n - m → j < job.n → (matrix s h m k).y i j ≡ pow_mod job.p (group_of hash job).g1 (secret job m k i j)
  unfolding matrix_of
  power zero k a b has i j c d = (ballot_matrix_lem hash job k f a b s _ (ballot_stands hash job f k b)).same_y i j (omega arith) d
  power (suc m) k a b has i j c d =
      ((rounds hash job s f (header_same hash job f) (kinds_same hash job f) job.n _ 0 _ _ (begun hash job f)).1 (suc m) k zero-le a b (has_counted (kind_of job k) m has)).1 i j c d

  -- and those of two x differ
  one_power : (x x' : ℕ) → x < job.q → x' < job.q → pow_mod job.p (group_of hash job).g1 x ≡ pow_mod job.p (group_of hash job).g1 x' → x ≡ x'
  unfolding pow_mod
  one_power x x' a b e =
      let o = orders_of_test job.n job.K job.p job.q f.ordered in
      let w = generators_of_test hash job.label job.counter (group_of hash job) o f.generated in
      cc (same_exponent job.p job.q (group_of hash job).g1 w.order1 o.prime_q w.apart1 x x' e, mod-eq_of_lt a, mod-eq_of_lt b)

  module _ (unrepeated : no_repeat job ≡ true) (m k : ℕ) (a : m < (plain_result job).rounds) (b : k < job.K) (has : records_of (kind_of job k) m ≡ 1) where
    below : (i j : ℕ) → i < job.n - m → j < job.n → secret job m k i j < job.q
    below i j c d = (secret_at_lem hash job f m k a b has i j c d).1

    different_Y_at : (i j i' j' : ℕ) → i < job.n - m → j < job.n → i' < job.n - m → j' < job.n → (matrix s h m k).y i j ≡ (matrix s h m k).y i' j' → (i ≡ i') × (j ≡ j')
    different_Y_at i j i' j' c d c' d' e =
        let x = one_power (secret job m k i j) (secret job m k i' j') (below i j c d) (below i' j' c' d') (sym (power m k a b has i j c d) ∙ e ∙ power m k a b has i' j' c' d') in
        same_place job.n i j i' j' d d'
        (different_same job.draws (job_draws job m k) (record_secrets job.n (kind_of job k) m) (apart job unrepeated m k a b) (i * job.n + j) (i' * job.n + j') (in_matrix hash job f m k a b has i j c d)
        (in_matrix hash job f m k a b has i' j' c' d') x)

different_Y : (hash : List ℕ → List ℕ) (job : Job) → Valid hash job → no_repeat job ≡ true → DifferentY (board hash job) (plain_result job).rounds
different_Y hash job v d =
    let f = fine hash job v in
    let s = board hash job in
    subst⁻¹
    (λ (h : Header). (m k : ℕ) → m < (plain_result job).rounds → k < h.K → HasRecord s h m k →
    (i j i' j' : ℕ) → i < h.n - m → j < h.n → i' < h.n - m → j' < h.n → (matrix s h m k).y i j ≡ (matrix s h m k).y i' j' → (i ≡ i') × (j ≡ j'))
    (header_same hash job f) (λ m k a b has. different_Y_at hash job f d m k a b (rw (kinds_same hash job f k b) at has))

pub repeats : (hash : List ℕ → List ℕ) → Repeats hash
repeats hash =
    record {
      due_iff = λ job room. (due hash job room, λ w. is_due hash job room w.0 w.1);
      turned_down = turned_down hash;
      different_Y = different_Y hash;
    }
