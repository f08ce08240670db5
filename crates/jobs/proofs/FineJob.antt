-- What a valid job has, and which jobs are valid.
use Prim.Native.Nat.{ℕ, ◌*◌, ◌-◌, ◌%◌, ◌≤◌, ◌<◌}
use native.Mathlib.Nat.{mod-eq_of_lt, pos_of_ne-zero}
use native.Mathlib.Omega.{arith}
use mathlib.Core.Path.{◌≡◌, refl, sym}
use mathlib.Core.Bool.{true, ◌&&◌, ◌||◌, true≢false, and-eq-true_iff}
use mathlib.Core.List.{List, [], ◌∷◌}
use lib.Dec.{leb, ltb, eqb}
use lib.ListN.{length}
use borrow.Author.Tests.{ltb-true, leb-true, le-leb, eqb-true, eqb-false, not-true}
use Rattle.jobs.specs.Job.{board_length, Job, group_of, ranking_of, kind_of, counted_below, needed, draw}
use Rattle.rules.specs.Records.{is_counted, is_audited}
use Rattle.rules.specs.Tests.{first_fault, ◌or_else◌}
use Rattle.numbers.proofs.Tests.{all_at}
use Rattle.rules.specs.Group.{orders, generators}
use Rattle.group.specs.Elements.{is_element}
use Rattle.rules.proofs.Orders.{orders_of_test, generators_of_test}
use Rattle.rules.proofs.Elements.{Good}
use Rattle.rules.proofs.Faults.{first_holds, fault_cases}
use Rattle.rules.specs.Count.{member, is_ranking}
use Rattle.jobs.specs.Write.{no_repeat, Valid, job_fault}

pub record Fine (hash : List ℕ → List ℕ) (job : Job) : Type 0 where
  pub n_low : 2 ≤ job.n
  pub n_high : job.n ≤ 8
  pub K_low : 1 ≤ job.K
  pub K_high : job.K ≤ 1000
  pub ordered : orders job.n job.K job.p job.q ≡ true
  pub labelled : length job.label ≡ 32
  pub generated : generators hash job.label job.counter (group_of hash job) ≡ true
  pub ranked : (k : ℕ) → k < job.K → is_ranking job.n (ranking_of job k) ≡ true
  pub kinds : (k : ℕ) → k < job.K → (is_counted (kind_of job k) || is_audited (kind_of job k)) ≡ true
  pub some_counted_lem : 0 < counted_below job job.K
  pub drawn : (d : ℕ) → d < needed job → (1 ≤ draw job d) × (draw job d < job.q)

pub fine : (hash : List ℕ → List ℕ) (job : Job) → Valid hash job → Fine hash job
fine hash job v =
    let a = simp and-eq-true_iff at v.passed.sized in
    let c = (and-eq-true_iff _ _).0 v.passed.labelled in
    let d = (and-eq-true_iff (eqb (length job.rankings) (job.K * job.n)) _).0 v.passed.ranked in
    let b = (and-eq-true_iff (eqb (length job.kinds) job.K) _).0 v.passed.kinds in
    let e = (and-eq-true_iff (leb (needed job) (length job.draws)) _).0 v.drawn in
    record {
      n_low = leb-true 2 job.n a.0.0.0;
      n_high = leb-true job.n 8 a.0.0.1;
      K_low = leb-true 1 job.K a.0.1;
      K_high = leb-true job.K 1000 a.1;
      ordered = v.passed.ordered;
      labelled = eqb-true (length job.label) 32 c.0;
      generated = c.1;
      ranked = all_at job.K _ d.1;
      kinds = all_at job.K _ b.1;
      some_counted_lem = pos_of_ne-zero (eqb-false (counted_below job job.K) 0 (not-true (eqb (counted_below job job.K) 0) v.passed.some_counted_lem));
      drawn = λ i l.
          let w = (and-eq-true_iff _ _).0 (all_at (needed job) (λ i. leb 1 (draw job i) && ltb (draw job i) job.q) e.1 i l) in
          (leb-true 1 _ w.0, ltb-true _ _ w.1);
    }

-- the fault by cases: that of a test up to the draws, or, where they pass, that of the tests behind them
pub fault_by : (P : ℕ → Type 0) (hash : List ℕ → List ℕ) (job : Job) (room : ℕ) → ((number : ℕ) → member number (3 ∷ 4 ∷ 5 ∷ 13 ∷ 17 ∷ 19 ∷ 14 ∷ []) ≡ true → P number) →
    (Valid hash job → P (first_fault ((no_repeat job or_else 20) ∷ (leb (board_length job) room or_else 15) ∷ []))) → P (job_fault hash job room)
unfolding job_fault member
fault_by P hash job room early behind =
    fault_cases P _ _ (λ _. early 3 refl) (λ a. fault_cases P _ _ (λ _. early 4 refl) (λ b. fault_cases P _ _ (λ _. early 5 refl) (λ c.
    fault_cases P _ _ (λ _. early 13 refl) (λ d. fault_cases P _ _ (λ _. early 17 refl) (λ e. fault_cases P _ _ (λ _. early 19 refl) (λ f.
    fault_cases P _ _ (λ _. early 14 refl)
    (λ g. behind (record { passed = record { sized = a; ordered = b; labelled = c; ranked = d; kinds = e; some_counted_lem = f }; drawn = g }))))))))

-- a job with no refusal is valid, no x repeats in a matrix, and its board fits
pub valid : (hash : List ℕ → List ℕ) (job : Job) (room : ℕ) → job_fault hash job room ≡ 0 → Valid hash job × (no_repeat job ≡ true) × (board_length job ≤ room)
unfolding member
valid hash job room =
    fault_by (λ x. x ≡ 0 → Valid hash job × (no_repeat job ≡ true) × (board_length job ≤ room)) hash job room (λ x l z. absurd (true≢false (sym (rw z at l))))
    (λ v h. let i = first_holds _ _ (omega arith) h in let j = first_holds _ _ (omega arith) i.1 in (v, i.0, leb-true _ _ j.0))

pub no_refusal : (hash : List ℕ → List ℕ) (job : Job) (room : ℕ) → Valid hash job → no_repeat job ≡ true → board_length job ≤ room → job_fault hash job room ≡ 0
unfolding job_fault first_fault
no_refusal hash job room v d l = let t = v.passed in rw (t.sized, t.ordered, t.labelled, t.ranked, t.kinds, t.some_counted_lem, v.drawn, d, le-leb (board_length job) room l)

pub good_group : (hash : List ℕ → List ℕ) (job : Job) → Fine hash job → Good (group_of hash job)
unfolding orders generators is_element
good_group hash job f =
    let o = orders_of_test job.n job.K job.p job.q f.ordered in
    let g = generators_of_test hash job.label job.counter (group_of hash job) o f.generated in
    let w = simp and-eq-true_iff at f.ordered in
    let large : 2 ≤ job.p = o.prime_p.large in
    let up : ¬ (job.p ≤ job.q) = λ l. let e : (job.p - 1) % job.q ≡ job.p - 1 = mod-eq_of_lt (omega arith) in omega (arith, o.divides) in
    record {
      large = large;
      small = ltb-true job.p 2147483648 w.0.0.0.1;
      some_q = omega (arith, o.prime_q.large);
      q_below = omega arith;
      root0 = g.order0;
      root1 = g.order1;
    }
