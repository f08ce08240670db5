-- The screen's entry to the checker: 23, and what follows of the demands.
use Prim.Native.Nat.{ℕ, zero, suc, ◌≤◌}
use mathlib.Core.Path.{◌≡◌, refl, sym, ap, subst, ◌∙◌}
use mathlib.Core.Bool.{true, false, true≢false, false≢true, and-eq-true_iff}
use mathlib.Core.List.{List, ◌∷◌}
use mathlib.Core.Logic.{◌↔◌, ◌⊎◌, inl, inr, ⊎_elim}
use native.Mathlib.Omega.{arith}
use lib.Dec.{leb}
use lib.ListN.{length}
use borrow.Author.Tests.{leb-true, leb-false, le-leb, lt-leb, not-true}
use Rattle.numbers.proofs.Tests.{by_cases, and_true}
use Rattle.rules.specs.Count.{member}
use Rattle.rules.specs.Records.{header_length}
use Rattle.rules.specs.Tests.{Test, first_fault}
use Rattle.rules.specs.Header.{ranked, small, sizes, limits, Header, header, header_fault}
use Rattle.rules.specs.Check.{Verdict, accepted, refused, record_number, check_board, check_small}
use Rattle.rules.specs.Receipts.{find_refused, find_outcome}
use Rattle.rules.specs.Notice.{text_refused, text_outcome}
use Rattle.rules.specs.declared.Model.{Model}
use Rattle.rules.proofs.Faults.{fault_none, fault_is, fault_cases}
use Rattle.rules.proofs.Positions.{number_first, number_later}
use Rattle.rules.proofs.Limits.{sizes_bounds, sizes_in, ranked_unlimited, five_tests, past_limits, small_verdict}
use Rattle.jobs.specs.Job.{Job, plain_result}
use Rattle.jobs.specs.Board.{board}
use Rattle.jobs.specs.Write.{Valid}
use Rattle.whole.specs.Rules.{HeaderRules}
use Rattle.whole.specs.SecondDemand.{EveryRuleHolds, FirstBroken, in_header, in_record, in_sheet, at_end}
use Rattle.whole.specs.ThirdDemand.{IsAccepted}
use Rattle.whole.specs.SmallLimits.{Within, Past, PastLimits, SmallLimits, SmallDemands}
use Rattle.whole.proofs.Sound.Accepted.{header_good}
use Rattle.whole.proofs.SecondDemand.{second_demand}
use Rattle.whole.proofs.ThirdDemand.{third_demand}
use Rattle.whole.proofs.Refusals.{refusals}

-- ---- the limits
limits_kept : (n K : ℕ) → Within n K → limits small n K ≡ true
limits_kept n K w = and_true (le-leb n 5 w.shown) (le-leb K 200 w.stored)

limits_past : (n K : ℕ) → Past n K → limits small n K ≡ false
limits_past n K (inl l) = rw (lt-leb n 5 l)
limits_past n K (inr l) = by_cases (leb n 5) (λ e. rw (e, lt-leb K 200 l)) (λ e. rw e)

within_of : (n K : ℕ) → limits small n K ≡ true → Within n K
within_of n K e = let w = (and-eq-true_iff _ _).0 e in record { shown = leb-true n 5 w.0; stored = leb-true K 200 w.1 }

past_of : (n K : ℕ) → limits small n K ≡ false → Past n K
past_of n K e = by_cases (leb n 5) (λ t. inr (leb-false K 200 (rw t at e))) (λ t. inl (leb-false n 5 t))

not_both : (n K : ℕ) → Within n K → Past n K → ⊥
not_both n K w p = true≢false (sym (limits_kept n K w) ∙ limits_past n K p)

module _ (s : List ℕ) where
  past_told : past_limits s ≡ true → PastLimits s
  unfolding past_limits
  past_told e =
      let w = (and-eq-true_iff _ _).0 e in
      let v = (and-eq-true_iff _ _).0 w.0 in
      let u = (and-eq-true_iff _ _).0 v.0 in
      let (low, high, some, few) = sizes_bounds ranked (header s).n (header s).K v.1 in
      record {
        fits = leb-true header_length (length s) u.0;
        marked = u.1;
        low = low;
        high = high;
        some = some;
        few = few;
        past = past_of (header s).n (header s).K (not-true _ w.1);
      }

  in_range : PastLimits s → sizes ranked (header s).n (header s).K ≡ true
  in_range w = sizes_in ranked (header s).n (header s).K w.low w.high w.some w.few

  past_tests : PastLimits s → past_limits s ≡ true
  unfolding past_limits
  past_tests w =
      and_true (and_true (and_true (le-leb header_length (length s) w.fits) w.marked) (in_range w)) (rw (limits_past (header s).n (header s).K w.past))

  not_past : (PastLimits s → ⊥) → past_limits s ≡ false
  not_past f = by_cases (past_limits s) (λ e. absurd (f (past_told e))) (λ e. e)

module _ (hash : List ℕ → List ℕ) where
  -- ---- 23 is due to no other entry
  not_checked : (s : List ℕ) (number : ℕ) → check_board hash s ≡ refused 23 number → ⊥
  unfolding member
  not_checked s number e = false≢true ((refusals hash).of_boards s 23 number e).numbered

  not_found : (s digests : List ℕ) (room number : ℕ) → find_outcome hash s digests room ≡ find_refused 23 number → ⊥
  unfolding member
  not_found s digests room number e = false≢true ((refusals hash).of_finds s digests room 23 number e).numbered

  not_due : (model : Model) (s : List ℕ) → model.most ≤ model.shows → model.ballots ≤ model.stores → header_fault hash model s ≡ 23 → ⊥
  not_due model s shown stored =
      let P : ℕ → Type 0 = λ x. x ≡ 23 → ⊥ in
      let other : (t : Test) (ts : List Test) → P t.refusal → P (first_fault ts) → P (first_fault (t ∷ ts)) = λ t ts l. fault_is P t ts (λ _. l) in
      subst P (sym (five_tests hash s model (record { shown = shown; stored = stored })))
      (other _ _ (λ z. omega arith) (other _ _ (λ z. omega arith) (other _ _ (λ z. omega arith) (other _ _ (λ z. omega arith) (other _ _ (λ z. omega arith)
      (rw fault_none (λ z. omega arith)))))))

  not_told : (s lent : List ℕ) (room number : ℕ) → text_outcome hash s lent room ≡ text_refused 23 number → ⊥
  unfolding member
  not_told s lent room number e = go (check_board hash s) refl
    where
      go : (v : Verdict) → check_board hash s ≡ v → ⊥
      go (refused r k) ev = let same = (((refusals hash).of_texts s lent room 23 number e).alike r k ev).0 in not_checked s k (rw (← same) at ev)
      go (accepted rounds order winner) ev = false≢true (((refusals hash).of_texts s lent room 23 number e).others rounds order winner ev).0

  module _ (s : List ℕ) where
    -- ---- the verdict, past the limits and else
    past_verdict : PastLimits s → check_small hash s ≡ refused 23 0
    past_verdict w = small_verdict hash s ∙ rw (past_tests s w)

    same : (PastLimits s → ⊥) → check_small hash s ≡ check_board hash s
    same f = small_verdict hash s ∙ rw (not_past s f)

    either : PastLimits s ⊎ (PastLimits s → ⊥)
    either = by_cases (past_limits s) (λ e. inl (past_told s e)) (λ e. inr (λ w. true≢false (sym (past_tests s w) ∙ e)))

    due : (number : ℕ) → check_small hash s ≡ refused 23 number → PastLimits s × (number ≡ 0)
    due number e =
        ⊎_elim
        (λ (w : PastLimits s). let q : refused 23 0 ≡ refused 23 number = sym (past_verdict w) ∙ e in (w, cc))
        (λ (f : PastLimits s → ⊥). absurd (not_checked s number (sym (same f) ∙ e)))
        either

    within : Within (header s).n (header s).K → check_small hash s ≡ check_board hash s
    within w = same (λ p. not_both (header s).n (header s).K w p.past)

    -- ---- 1, 2 or 3
    -- no record of a ballot and no sheet has the number 0
    numbered : (h : Header) (m k : ℕ) → record_number s h m k ≡ 0 → ⊥
    numbered h zero k z = omega (arith, number_first s h k)
    numbered h (suc m) k z = omega (arith, number_later s h m k)

    -- past the limits neither is due to the header
    after_three : PastLimits s → 1 ≤ header_fault hash ranked s → 4 ≤ header_fault hash ranked s
    after_three w =
        let P : ℕ → Type 0 = λ x. 1 ≤ x → 4 ≤ x in
        let holds : (t : Test) (ts : List Test) → t.holds ≡ true → P (first_fault ts) → P (first_fault (t ∷ ts)) =
        λ t ts e l. fault_cases P t ts (λ f. absurd (true≢false (sym e ∙ f))) (λ _. l) in
        let later : (t : Test) (ts : List Test) → P t.refusal → P (first_fault ts) → P (first_fault (t ∷ ts)) = λ t ts l. fault_is P t ts (λ _. l) in
        subst P (sym (five_tests hash s ranked ranked_unlimited))
        (holds _ _ (le-leb header_length (length s) w.fits) (holds _ _ w.marked (holds _ _ (in_range s w) (later _ _ (λ z. omega arith) (later _ _ (λ z. omega arith)
        (rw fault_none (λ z. omega arith)))))))

    earlier : (refusal : ℕ) → refusal ≤ 3 → check_board hash s ≡ refused refusal 0 → PastLimits s → ⊥
    earlier refusal l e w = go (((second_demand hash).refused_iff s refusal 0).0 e)
      where
        go : FirstBroken hash s refusal 0 → ⊥
        go (in_header _ broken low) = omega (arith, broken, after_three w (rw broken low))
        go (in_record m k _ _ z _ _ _ _) = numbered (header s) m k (sym z)
        go (in_sheet m z _ _ _ _) = numbered (header s) m (header s).K (sym z)
        go (at_end m z _ _ _ _ _) = omega arith

    before : (refusal : ℕ) → refusal ≤ 3 → (check_small hash s ≡ refused refusal 0) ↔ (check_board hash s ≡ refused refusal 0)
    before refusal l = (
      λ e.
          ⊎_elim
          (λ (w : PastLimits s). let q : refused 23 0 ≡ refused refusal 0 = sym (past_verdict w) ∙ e in let z : 23 ≡ refusal = cc in absurd (omega arith))
          (λ (f : PastLimits s → ⊥). sym (same f) ∙ e)
          either,
      λ e. same (earlier refusal l e) ∙ e,
    )

    -- ---- the demands
    -- where every rule of the header holds: it is past the limits, or within them
    outside : HeaderRules hash ranked s → Past (header s).n (header s).K → PastLimits s
    outside h p =
        let good = header_good hash s h in
        record { fits = h.fits; marked = h.marked; low = good.two; high = good.eight; some = good.one; few = good.thousand; past = p }

    inside : HeaderRules hash ranked s → (PastLimits s → ⊥) → Within (header s).n (header s).K
    inside h f =
        by_cases (limits small (header s).n (header s).K) (within_of (header s).n (header s).K) (λ e. absurd (f (outside h (past_of (header s).n (header s).K e))))

    module _ (rounds : ℕ) (order : List ℕ) (winner : ℕ) where
      accepted_too : (check_small hash s ≡ accepted rounds order winner) ↔ ((check_board hash s ≡ accepted rounds order winner) × Within (header s).n (header s).K)
      accepted_too = (
        λ e.
            ⊎_elim
            (λ (w : PastLimits s).
            let q : refused 23 0 ≡ accepted rounds order winner = sym (past_verdict w) ∙ e in let z : ◌≡◌ {A = ℕ} 0 1 = cc in absurd (omega arith))
            (λ (f : PastLimits s → ⊥). let a = sym (same f) ∙ e in (a, inside (((second_demand hash).accepted_iff s rounds order winner).0 a).head f))
            either,
        λ w. within w.1 ∙ w.0,
      )

      accepted_iff : (check_small hash s ≡ accepted rounds order winner) ↔ (EveryRuleHolds hash s rounds order winner × Within (header s).n (header s).K)
      accepted_iff =
          let d = (second_demand hash).accepted_iff s rounds order winner in
          (λ e. let w = accepted_too.0 e in (d.0 w.0, w.1), λ w. accepted_too.1 (d.1 w.0, w.1))

    refused_iff : (refusal number : ℕ) →
        (check_small hash s ≡ refused refusal number)
        ↔ ((PastLimits s × (refusal ≡ 23) × (number ≡ 0)) ⊎ ((PastLimits s → ⊥) × FirstBroken hash s refusal number))
    refused_iff refusal number =
        let d = (second_demand hash).refused_iff s refusal number in (
          λ e.
              ⊎_elim
              (λ (w : PastLimits s). let q : refused 23 0 ≡ refused refusal number = sym (past_verdict w) ∙ e in inl (w, cc, cc))
              (λ (f : PastLimits s → ⊥). inr (f, d.0 (sym (same f) ∙ e)))
              either,
          λ w. elim w [ inl p ↦ past_verdict p.0 ∙ cc (p.1, p.2) | inr p ↦ same p.0 ∙ d.1 p.1 ],
        )

  -- ---- boards of jobs
  module _ (job : Job) (v : Valid hash job) where
    abbrev fixed : IsAccepted hash job (board hash job) (plain_result job)
    fixed = (third_demand hash).fixed_boards job v

    fixed_small : Within job.n job.K → check_small hash (board hash job) ≡ accepted (plain_result job).rounds (plain_result job).order (plain_result job).winner
    fixed_small w = within (board hash job) (rw fixed.heads w) ∙ fixed.accepts

    larger : Past job.n job.K → check_small hash (board hash job) ≡ refused 23 0
    larger p =
        let s = board hash job in
        past_verdict s (outside s (((second_demand hash).accepted_iff s _ _ _).0 fixed.accepts).head (rw fixed.heads p))

pub small_limits : (hash : List ℕ → List ℕ) → SmallLimits hash
small_limits hash =
    record {
      due_iff = λ s number. (due hash s number, λ w. past_verdict hash s w.0 ∙ ap (refused 23) (sym w.1));
      same = same hash;
      either = either hash;
      within = within hash;
      refused_before = before hash;
      not_checked = not_checked hash;
      not_found = not_found hash;
      not_told = not_told hash;
      not_due = not_due hash;
    }

pub small_demands : (hash : List ℕ → List ℕ) → SmallDemands hash
small_demands hash =
    record {
      accepted_too = accepted_too hash;
      accepted_iff = accepted_iff hash;
      refused_iff = refused_iff hash;
      accepted_boards = λ s rounds order winner rankings e. (third_demand hash).accepted_boards s rounds order winner rankings ((accepted_too hash s rounds order winner).0 e).0;
      fixed_boards = λ job v w. (fixed hash job v, fixed_small hash job v w);
      larger_boards = larger hash;
    }
