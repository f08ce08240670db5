-- The tests of a job in turn, up to the kinds, and the refusal that each names.
use Prim.Native.Nat.{ℕ, suc, ◌*◌, ◌<◌}
use mathlib.Core.Path.{◌≡◌, sym, ◌∙◌}
use mathlib.Core.Bool.{Bool, true, false, not, ◌&&◌, and-eq-true_iff}
use mathlib.Core.Logic.{inl, inr}
use mathlib.Core.List.{List}
use native.Mathlib.Omega.{arith}
use borrow.Author.Tests.{ne_eqb, eqb-true, not-true, not-false}
use lib.Dec.{eqb}
use lib.ListN.{length}
use Rattle.numbers.specs.Below.{all_below}
use Rattle.numbers.proofs.Search.{first_is}
use Rattle.numbers.proofs.Tests.{all_true, all_fails}
use Rattle.sha256.specs.Message.{sha256}
use Rattle.group.specs.Elements.{Parameters}
use Rattle.rules.specs.Group.{orders, generators}
use Rattle.rules.specs.Header.{ranked, sizes}
use Rattle.rules.specs.Count.{is_ranking}
use Rattle.rules.specs.Tests.{first_fault}
use Rattle.jobs.specs.Job.{Job, group_of, ranking_of}
use Rattle.jobs.specs.Write.{label_good, rankings_good, kinds_good, some_counted, job_fault, first_bad, bad_ranking, write_outcome, write_output}
use Rattle.parameters.proofs.Rules.{orders_positive}
use Rattle.std.specs.Prelude.{Result}
use Rattle.std.specs.Result.{IsErrAnd}
use Rattle.std.proofs.lemmas.Result.{err_from_is_err_and}
use Rattle.rules.specs.declared.Refusal.{Refusal}
use Rattle.group.specs.declared.Group.{Group}
use Rattle.jobs.specs.declared.Unwritten.{Unwritten}
use Rattle.rules.specs.Answers.{refusal_number}
use Rattle.validity.specs.Tests.{Stops, JobTested}

-- the tests in the code's words
module _ (job : Job) where
  pub group_positive : (g : Parameters) → g ≡ group_of sha256 job → orders job.n job.K job.p job.q ≡ true → (0 < g.p) × (0 < g.q)
  group_positive g e o = let w = orders_positive job.n job.K job.p job.q o in rw e w

  pub label_is : (b : Bool) (g : Parameters) → b ≡ (eqb (length job.label) 32 && generators sha256 job.label job.counter g) → g ≡ group_of sha256 job → b ≡ label_good sha256 job
  label_is b g h e = h ∙ rw e

  abbrev all_ranked : ℕ → Bool
  all_ranked k = all_below k (λ k. is_ranking job.n (ranking_of job k))

  all_ranked_lem : (k : ℕ) → first_bad job k ≡ 0 → all_ranked k ≡ true
  all_ranked_lem k h = elim (first_is k (λ i. not (is_ranking job.n (ranking_of job i)))) [
    | inl z ↦ all_true k _ (λ i l. not-false _ (z.1 i l))
    | inr o ↦ absurd (omega (arith, o.1))
  ]

  not_ranked : (k : ℕ) → 0 < first_bad job k → all_ranked k ≡ false
  not_ranked k h = elim (first_is k (λ i. not (is_ranking job.n (ranking_of job i)))) [
    | inl z ↦ absurd (omega (arith, z.0))
    | inr o ↦ all_fails k o.0 _ o.2 (not-true _ o.3)
  ]

  pub well_ranked : eqb (length job.rankings) (job.K * job.n) ≡ true → first_bad job job.K ≡ 0 → rankings_good job ≡ true
  well_ranked l b = rw l (all_ranked_lem job.K b)

  -- as many kinds as ballots
  pub kinds_many : kinds_good job ≡ true → length job.kinds ≡ job.K
  kinds_many h = eqb-true _ _ ((and-eq-true_iff (eqb (length job.kinds) job.K) _).0 h).0

-- what the refusal of a test tells
pub refused : (job : Job) (r : Result Group Unwritten) (u : Unwritten) (refusal : Refusal) → IsErrAnd r (λ e. e ≡ u) → u.refusal ≡ refusal → u.ranking ≡ 0 →
    ((out : List ℕ) → Stops job out (refusal_number refusal) 0) → JobTested job r
unfolding JobTested
refused job r u refusal w n k s = let p = err_from_is_err_and r w in rw (p.1, p.2) (λ out. rw (n, k) (s out))

-- the first test that fails names the refusal
module _ (job : Job) (out : List ℕ) where
  stops : (v k : ℕ) → job_fault sha256 job (length out) ≡ suc v → bad_ranking job (suc v) ≡ k → Stops job out (suc v) k
  unfolding write_outcome write_output
  stops v k e w =
      let n : eqb (suc v) 0 ≡ false = ne_eqb (suc v) 0 (λ z. omega arith) in
      record { outcome = rw (e, n, w); output = rw (e, n) }

  -- only the rankings' refusal names one of them
  pub plainly : (v : ℕ) → (suc v ≡ 13 → ⊥) → job_fault sha256 job (length out) ≡ suc v → Stops job out (suc v) 0
  unfolding bad_ranking
  plainly v h e = stops v 0 e (rw (ne_eqb (suc v) 13 h))

  pub stops_sizes : sizes ranked job.n job.K ≡ false → Stops job out 3 0
  unfolding job_fault first_fault
  stops_sizes a = plainly 2 (λ e. omega arith) (rw a)

  module _ (a : sizes ranked job.n job.K ≡ true) where
    pub stops_orders : orders job.n job.K job.p job.q ≡ false → Stops job out 4 0
    unfolding job_fault first_fault
    stops_orders b = plainly 3 (λ e. omega arith) (rw (a, b))

    module _ (b : orders job.n job.K job.p job.q ≡ true) where
      pub stops_label : label_good sha256 job ≡ false → Stops job out 5 0
      unfolding job_fault first_fault
      stops_label c = plainly 4 (λ e. omega arith) (rw (a, b, c))

      module _ (c : label_good sha256 job ≡ true) where
        stops_rankings : rankings_good job ≡ false → (k : ℕ) → bad_ranking job 13 ≡ k → Stops job out 13 k
        unfolding job_fault first_fault
        stops_rankings d k w = stops 12 k (rw (a, b, c, d)) w

        pub stops_length : eqb (length job.rankings) (job.K * job.n) ≡ false → Stops job out 13 0
        unfolding bad_ranking
        stops_length h = stops_rankings (rw h) 0 (rw h)

        pub stops_ranking : eqb (length job.rankings) (job.K * job.n) ≡ true → (k : ℕ) → k ≡ first_bad job job.K → 0 < k → Stops job out 13 k
        unfolding bad_ranking
        stops_ranking h k e p = stops_rankings (rw h (not_ranked job job.K (omega arith))) k (rw h (sym e))

        module _ (d : rankings_good job ≡ true) where
          pub stops_kinds : kinds_good job ≡ false → Stops job out 17 0
          unfolding job_fault first_fault
          stops_kinds k = plainly 16 (λ e. omega arith) (rw (a, b, c, d, k))

          pub stops_uncounted : kinds_good job ≡ true → some_counted job ≡ false → Stops job out 19 0
          unfolding job_fault first_fault
          stops_uncounted k s = plainly 18 (λ e. omega arith) (rw (a, b, c, d, k, s))
