-- The refusals of the checker and of the writer name what is there.
use Prim.Native.Nat.{ℕ, zero, suc, ◌+◌, ◌*◌, ◌-◌, ◌≤◌}
use mathlib.Core.Path.{◌≡◌, refl, sym, ap, ◌∙◌}
use mathlib.Core.Bool.{Bool, true, false, not, true≢false}
use mathlib.Core.List.{List, [], ◌∷◌, ◌++◌, append_assoc}
use mathlib.Core.Logic.{◌⊎◌, inl, inr}
use mathlib.Core.Option.{Option, none, some}
use native.Mathlib.Nat.{mul-le-mul_right}
use native.Mathlib.Omega.{arith}
use lib.Dec.{leb, eqb}
use lib.ListN.{length, length-append}
use borrow.Author.Tests.{eqb-true, eqb-false, eq-eqb, ne_eqb, not-true, not-false}
use Rattle.rules.specs.Count.{Result, counts_of, count_from, plain_count, member, Standing, start, next, closes, is_ranking}
use Rattle.jobs.specs.Job.{Job, ranking_of}
use Rattle.jobs.specs.Write.{rankings_good, job_fault, first_bad, bad_ranking, job_refused, write_outcome}
use Rattle.numbers.proofs.Search.{first_is}
use Rattle.rules.specs.Tests.{Test, first_fault, fault_below}
use Rattle.rules.specs.Header.{ranked, sizes, Header, header, header_fault}
use Rattle.rules.specs.Shift.{shift_fault}
use Rattle.rules.specs.Sheet.{sheet_fields, sheet_fault}
use Rattle.rules.specs.Records.{is_counted}
use Rattle.rules.specs.Check.{Verdict, Position, kind, counted, record_number, accepted, refused, record_fault, round_sheet_fault, check_board, check_small}
use Rattle.rules.specs.Receipts.{list_fault, frame_fault, find_refused, find_in_ballots, find_on_board, find_outcome}
use Rattle.rules.specs.Sentences.{text}
use Rattle.rules.specs.Notice.{name_of, names_good, board_result, text_told, text_refused, text_fault, tell, text_outcome}
use Rattle.whole.specs.Refusals.{BoardRefusal, JobRefusal, FindRefusal, TextRefusal, Refusals}
use Rattle.numbers.proofs.Tests.{by_cases, or_false_left, and_true, all_true}
use Rattle.jobs.proofs.FineJob.{valid, no_refusal}
use Rattle.rules.proofs.Faults.{fault_none, fault_is, Faulty, first_faulty}
use Rattle.rules.proofs.Leaving.{not_last}
use Rattle.rules.proofs.Limits.{sizes_bounds, ranked_unlimited, five_tests, past_limits, small_verdict}
use Rattle.rules.proofs.Positions.{position_first, number_next, number_up, number_first, number_later, few_counted}
use Rattle.whole.proofs.Rules.{header_rules}
use Rattle.whole.proofs.Sound.Accepted.{header_good}
use Rattle.whole.specs.SecondDemand.{round_place, out_before, due_at, ballot_number, sheet_number, FirstBroken, in_header, in_record, in_sheet, at_end}
use Rattle.whole.proofs.SecondDemand.{Passed, Open, passed_of, passed_fewer, of_open, next_number, early, sheet_fits, second_demand}

-- the refusals of boards
abbrev Boards : List ℕ
Boards = 1 ∷ 2 ∷ 3 ∷ 4 ∷ 5 ∷ 6 ∷ 7 ∷ 8 ∷ 9 ∷ 10 ∷ 11 ∷ 12 ∷ 17 ∷ 18 ∷ 19 ∷ []

abbrev OfBoards : ℕ → Type 0
OfBoards x = member x (0 ∷ Boards) ≡ true

-- such a number, and where it is 19
abbrev Due : (P : Type 0) (x : ℕ) → Type 0
Due P x = OfBoards x × (x ≡ 19 → P)

module _ {P : Type 0} where
  due_none : Due P (first_fault [])
  unfolding member
  due_none = rw fault_none (refl, λ z. absurd (omega arith))

  -- one test more
  due_test : (t : Test) (ts : List Test) → OfBoards t.refusal → eqb t.refusal 19 ≡ false → Due P (first_fault ts) → Due P (first_fault (t ∷ ts))
  due_test t ts l ne = fault_is (Due P) t ts (λ _. (l, λ z. absurd (eqb-false t.refusal 19 ne z)))

  due_fields : (s : List ℕ) (h : Header) (at C i : ℕ) (ts : List Test) → Due P (first_fault ts) → Due P (first_fault (sheet_fields s h at C i ++ ts))
  unfolding sheet_fields member
  due_fields s h at C zero ts l = l
  due_fields s h at C (suc i) ts l = rw append_assoc (due_fields s h at C i _ (due_test _ _ refl refl (due_test _ _ refl refl l)))

module _ (hash : List ℕ → List ℕ) (s : List ℕ) where
  due_header : {P : Type 0} → Due P (header_fault hash ranked s)
  unfolding member
  due_header = rw (five_tests hash s ranked ranked_unlimited) (due_test _ _ refl refl (due_test _ _ refl refl (due_test _ _ refl refl (due_test _ _ refl refl (due_test _ _ refl refl due_none)))))

  module _ (h : Header) where
    -- 19 is of the last ballot in the first round
    due_record : (a m k : ℕ) → Due ((m ≡ 0) × (k + 1 ≡ h.K)) (record_fault hash s h a m k)
    unfolding record_fault shift_fault member
    due_record a zero k =
        due_test _ _ refl refl (due_test _ _ refl refl (due_test _ _ refl refl (due_test _ _ refl refl
        (due_test _ _ refl refl (due_test _ _ refl refl (due_test _ _ refl refl
        (fault_is (Due ((0 ≡ 0) × (k + 1 ≡ h.K))) _ _ (λ bad. (refl, λ _. (refl, eqb-true (k + 1) h.K (not-false _ (or_false_left _ _ bad))))) due_none)))))))
    due_record a (suc m) k =
        by_cases (is_counted (kind s h k))
        (λ c. rw c (due_test _ _ refl refl (due_test _ _ refl refl (due_test _ _ refl refl (due_test _ _ refl refl (due_test _ _ refl refl due_none))))))
        (λ c. rw c (refl, λ z. absurd (omega arith)))

    due_sheet : {P : Type 0} (m out : ℕ) → Due P (round_sheet_fault s h m out)
    unfolding sheet_fault member
    due_sheet m out =
        due_test _ _ refl refl (due_test _ _ refl refl (due_test _ _ refl refl
        (due_fields s h _ (counted s h) h.n _ (due_test _ _ refl refl (due_test _ _ refl refl due_none)))))

  -- round m begins on the board
  begins : (m : ℕ) → Passed hash s m → round_place s m ≤ length s
  begins zero p = omega (arith, ap (λ (w : Position). w.place) (position_first s (header s)), p.head.fits)
  begins (suc m) p = sheet_fits hash s m (p.sheets m (omega arith))

  -- the records of the first rounds
  few_records : (m : ℕ) → m + 2 ≤ (header s).n → (header s).n ≤ 8 → (header s).K ≤ 1000 → sheet_number s m + 1 ≤ 7008
  few_records zero l eight thousand = omega (arith, number_first s (header s) (header s).K)
  few_records (suc m) l eight thousand =
      let few = few_counted s (header s) (header s).K in
      let up : m * (counted s (header s) + 1) ≤ 5 * (counted s (header s) + 1) = mul-le-mul_right (counted s (header s) + 1) (omega arith) in
      omega (arith, number_later s (header s) m (header s).K)

  -- a refusal in round m
  named : (m refusal number : ℕ) → Passed hash s m → Open hash s m → 1 ≤ refusal → Due (number ≡ (header s).K) refusal → number ≤ sheet_number s m + 1 → BoardRefusal s refusal number
  unfolding member
  named m refusal number p o low due within =
      let early = early hash s m p.head o in
      let good = header_good hash s p.head in
      record {
        numbered = rw (ne_eqb refusal 0 (λ z. omega arith)) at due.0;
        last = due.1;
        rounds = suc m;
        few = omega arith;
        stands = λ r q. let same : r ≡ m = omega arith in rw same (begins m p);
        within = rw (number_next s (header s) m) within;
        most = omega (arith, few_records m early good.eight good.thousand);
      }

  pub board_refusal : (refusal number : ℕ) → check_board hash s ≡ refused refusal number → BoardRefusal s refusal number
  unfolding member
  board_refusal refusal number e = go (((second_demand hash).refused_iff s refusal number).0 e)
    where
      in_last : (m j : ℕ) → number ≡ ballot_number s m j → Due ((m ≡ 0) × (j + 1 ≡ (header s).K)) refusal → Due (number ≡ (header s).K) refusal
      in_last m j q due = (due.0, λ z. let w = due.1 z in omega (arith, rw w.0 at q, number_first s (header s) j, w.1))

      go : FirstBroken hash s refusal number → BoardRefusal s refusal number
      go (in_header q broken low) =
          let due : Due (number ≡ (header s).K) refusal = rw (← broken) due_header in
          record {
            numbered = rw (ne_eqb refusal 0 (λ z. omega arith)) at due.0;
            last = due.1;
            rounds = 0;
            few = omega arith;
            stands = λ m z. absurd (omega arith);
            within = omega arith;
            most = omega arith;
          }
      go (in_record m j l _ q before o broken low) =
          named m refusal number (passed_of hash s m j (rw q at before)) (of_open hash s m j (rw q at o)) low (in_last m j q (rw broken at (due_record (header s) (out_before s m) m j)))
          (omega (arith, number_up s (header s) m j (header s).K (omega arith)))
      go (in_sheet m q before o broken low) =
          named m refusal number (passed_of hash s m (header s).K (rw q at before)) (of_open hash s m (header s).K (rw q at o)) low
          (rw (← broken) (due_sheet (header s) m (due_at s m))) (omega arith)
      go (at_end m q before o closed remain twelve) =
          named m refusal number (passed_fewer hash s (passed_of hash s (suc m) 0 (rw (q, next_number hash s m) at before))) (of_open hash s m (header s).K o) (omega arith) (rw twelve (refl, λ z. absurd (omega arith))) (omega arith)

  -- for the screen
  pub small_refusal : (refusal number : ℕ) → check_small hash s ≡ refused refusal number → ((refusal ≡ 23) × (number ≡ 0)) ⊎ BoardRefusal s refusal number
  small_refusal refusal number e =
      by_cases (past_limits s)
      (λ p. let q : refused 23 0 ≡ refused refusal number = rw (small_verdict hash s, p) at e in inl (cc, cc))
      (λ p. inr (board_refusal refusal number (rw (small_verdict hash s, p) at e)))

-- ---- jobs
abbrev Numbers : List ℕ
Numbers = 3 ∷ 4 ∷ 5 ∷ 13 ∷ 17 ∷ 19 ∷ 14 ∷ 20 ∷ 15 ∷ []

low_bad : (job : Job) → first_bad job job.K ≤ job.K
low_bad job = elim (first_is job.K (λ i. not (is_ranking job.n (ranking_of job i)))) [ inl z ↦ omega (arith, z.0) | inr o ↦ omega (arith, o.1, o.2) ]

job_number : (hash : List ℕ → List ℕ) (job : Job) (room : ℕ) → member (job_fault hash job room) (0 ∷ Numbers) ≡ true
unfolding job_fault member
job_number hash job room =
    let P : ℕ → Type 0 = λ x. member x (0 ∷ Numbers) ≡ true in
    let step : (t : Test) (ts : List Test) → P t.refusal → P (first_fault ts) → P (first_fault (t ∷ ts)) = λ t ts l. fault_is P t ts (λ _. l) in
    step _ _ refl (step _ _ refl (step _ _ refl (step _ _ refl (step _ _ refl (step _ _ refl (step _ _ refl (step _ _ refl (step _ _ refl (rw fault_none)))))))))

-- 13 is due only where the rankings are bad
rankings_bad : (hash : List ℕ → List ℕ) (job : Job) (room : ℕ) → rankings_good job ≡ true → job_fault hash job room ≡ 13 → ⊥
unfolding job_fault
rankings_bad hash job room good =
    let P : ℕ → Type 0 = λ x. x ≡ 13 → ⊥ in
    let other : (t : Test) (ts : List Test) → P t.refusal → P (first_fault ts) → P (first_fault (t ∷ ts)) = λ t ts l. fault_is P t ts (λ _. l) in
    other _ _ (λ z. omega arith) (other _ _ (λ z. omega arith) (other _ _ (λ z. omega arith)
    (fault_is P _ _ (λ bad. absurd (true≢false (sym good ∙ bad)))
    (other _ _ (λ z. omega arith) (other _ _ (λ z. omega arith) (other _ _ (λ z. omega arith) (other _ _ (λ z. omega arith) (other _ _ (λ z. omega arith) (rw fault_none (λ z. omega arith))))))))))

-- and where the sizes are good
few_rankings : (hash : List ℕ → List ℕ) (job : Job) (room : ℕ) → job_fault hash job room ≡ 13 → job.K ≤ 1000
unfolding job_fault first_fault
few_rankings hash job room z =
    by_cases (sizes ranked job.n job.K)
    (λ e. (sizes_bounds ranked job.n job.K e).3)
    (λ e. absurd (omega (arith, rw e at z)))

job_named : (hash : List ℕ → List ℕ) (job : Job) (room : ℕ) → (job_fault hash job room ≡ 0 → ⊥) → JobRefusal job (job_fault hash job room) (bad_ranking job (job_fault hash job room))
unfolding bad_ranking member
job_named hash job room ne =
    let fault = job_fault hash job room in
    record {
      numbered = rw (ne_eqb fault 0 ne) at (job_number hash job room);
      others = λ z. rw (ne_eqb fault 13 z);
      wrong_length = λ z. rw (ne_eqb (length job.rankings) (job.K * job.n) z) (by_cases (eqb fault 13) (λ e. rw e) (λ e. rw e));
      first_bad_lem = λ z l. rw (eq-eqb fault 13 z, eq-eqb (length job.rankings) (job.K * job.n) l)
          (elim (first_is job.K (λ i. not (is_ranking job.n (ranking_of job i)))) [
            | inl w ↦ absurd (rankings_bad hash job room (and_true (eq-eqb _ _ l) (all_true job.K _ (λ i b. not-false _ (w.1 i b)))) z)
            | inr o ↦ (o.0, o.1, o.2, not-true _ o.3, λ i b. not-false _ (o.4 i b))
          ]);
      most = by_cases (eqb fault 13)
          (λ e. by_cases (eqb (length job.rankings) (job.K * job.n))
          (λ l. rw (e, l) (omega (arith, low_bad job, few_rankings hash job room (eqb-true _ _ e)))) (λ l. rw (e, l) (omega arith)))
          (λ e. rw e (omega arith));
    }

pub job_refusal : (hash : List ℕ → List ℕ) (job : Job) (room number w : ℕ) → write_outcome hash job room ≡ job_refused number w → JobRefusal job number w
unfolding write_outcome
job_refusal hash job room number w e =
    let fault = job_fault hash job room in
    by_cases (eqb fault 0)
    (λ z. let q = rw (z, write_outcome) at e in let y : ◌≡◌ {A = ℕ} 0 1 = cc in absurd (omega arith))
    (λ z.
    let q : job_refused fault (bad_ranking job fault) ≡ job_refused number w = rw (z, write_outcome) at e in
    let same_number : fault ≡ number = cc in
    let same_ranking : bad_ranking job fault ≡ w = cc in
    rw (← same_number, ← same_ranking) (job_named hash job room (eqb-false fault 0 z)))

-- ---- receipts
abbrev Finds : List ℕ
Finds = 16 ∷ 15 ∷ 1 ∷ 2 ∷ 3 ∷ 4 ∷ 5 ∷ 6 ∷ 17 ∷ []

-- a number of a list's refusals, or of a board's
abbrev OfFinds : ℕ → Type 0
OfFinds x = member x (0 ∷ Finds) ≡ true

of_finds : (t : Test) (ts : List Test) → OfFinds t.refusal → OfFinds (first_fault ts) → OfFinds (first_fault (t ∷ ts))
of_finds t ts l = fault_is OfFinds t ts (λ _. l)

find_named : (s : List ℕ) (refusal number : ℕ) → OfFinds refusal → (refusal ≡ 0 → ⊥) → (member refusal (16 ∷ 15 ∷ []) ≡ true → number ≡ 0) → number ≤ (header s).K → number ≤ 1000 → FindRefusal s refusal number
unfolding member
find_named s refusal number of ne lists within most = record { numbered = rw (ne_eqb refusal 0 ne) at of; lists = lists; within = within; most = most }

module _ (hash : List ℕ → List ℕ) (s digests : List ℕ) (room : ℕ) where
  of_list : OfFinds (list_fault digests room)
  unfolding list_fault member
  of_list = of_finds _ _ refl (of_finds _ _ refl (rw fault_none))

  find_header : OfFinds (header_fault hash ranked s)
  unfolding member
  find_header =
      rw (five_tests hash s ranked ranked_unlimited)
      (of_finds _ _ refl (of_finds _ _ refl (of_finds _ _ refl (of_finds _ _ refl (of_finds _ _ refl (rw fault_none))))))

  -- neither 15 nor 16 is due to a record
  abbrev OfFrames : ℕ → Type 0
  OfFrames x = (member x (0 ∷ Finds) ≡ true) × (member x (16 ∷ 15 ∷ []) ≡ false)

  of_frame : (k : ℕ) → OfFrames (frame_fault s k)
  unfolding member
  of_frame k =
      let step : (t : Test) (ts : List Test) → OfFrames t.refusal → OfFrames (first_fault ts) → OfFrames (first_fault (t ∷ ts)) = λ t ts l. fault_is OfFrames t ts (λ _. l) in
      step _ _ (refl, refl) (step _ _ (refl, refl) (step _ _ (refl, refl) (step _ _ (refl, refl) (rw fault_none (refl, refl)))))

  -- a ballot's record is refused
  in_ballots : header_fault hash ranked s ≡ 0 → (w : ℕ × ℕ) → Faulty (header s).K (frame_fault s) w → FindRefusal s w.1 (record_number s (header s) 0 w.0)
  in_ballots z w f =
      let few = (header_good hash s ((header_rules hash ranked s).0 z)).thousand in
      let n = number_first s (header s) w.0 in
      find_named s _ _ (rw f.fault (of_frame w.0).0) (λ e. f.some_fault (sym f.fault ∙ e)) (λ l. absurd (true≢false (sym l ∙ rw f.fault (of_frame w.0).1)))
      (omega (arith, f.below)) (omega (arith, f.below))

  pub find_refusal : (refusal number : ℕ) → find_outcome hash s digests room ≡ find_refused refusal number → FindRefusal s refusal number
  unfolding find_outcome find_on_board find_in_ballots
  find_refusal refusal number e = go (eqb (list_fault digests room) 0) (eqb (header_fault hash ranked s) 0) (fault_below (header s).K (frame_fault s)) refl refl refl
    where
      same : (r k : ℕ) → find_refused r k ≡ find_refused refusal number → FindRefusal s r k → FindRefusal s refusal number
      same r k q w = let a : r ≡ refusal = cc in let b : k ≡ number = cc in rw (← a, ← b) w

      go : (l h : Bool) (v : Option (ℕ × ℕ)) → eqb (list_fault digests room) 0 ≡ l → eqb (header_fault hash ranked s) 0 ≡ h → fault_below (header s).K (frame_fault s) ≡ v → FindRefusal s refusal number
      go false h v el eh ev = same (list_fault digests room) 0 (rw (el, find_outcome) at e) (find_named s _ _ of_list (eqb-false _ 0 el) (λ _. refl) (omega arith) (omega arith))
      go true false v el eh ev =
          same (header_fault hash ranked s) 0 (rw (el, find_outcome, eh, find_on_board) at e) (find_named s _ _ find_header (eqb-false _ 0 eh) (λ _. refl) (omega arith) (omega arith))
      go true true (some w) el eh ev =
          same w.1 (record_number s (header s) 0 w.0) (rw (el, find_outcome, eh, find_on_board, ev, find_in_ballots) at e)
          (in_ballots (eqb-true _ 0 eh) w (first_faulty (header s).K (frame_fault s) w ev))
      go true true none el eh ev =
          let q = rw (el, find_outcome, eh, find_on_board, ev, find_in_ballots) at e in let z : ◌≡◌ {A = ℕ} 0 1 = cc in absurd (omega arith)

-- ---- texts
-- the tests of names and output name 21 and 15
of_text : (n : ℕ) (lent words : List ℕ) (room : ℕ) → (text_fault n lent words room ≡ 0 → ⊥) → member (text_fault n lent words room) (21 ∷ 15 ∷ []) ≡ true
unfolding text_fault first_fault member
of_text n lent words room ne =
    by_cases (names_good lent n)
    (λ g. by_cases (leb (length words) room) (λ l. absurd (ne (rw (g, l)))) (λ l. rw (g, l)))
    (λ g. rw g)

of_tell : (n : ℕ) (lent : List ℕ) (r : Result) (room refusal number : ℕ) → tell n lent r room ≡ text_refused refusal number →
    (member refusal (21 ∷ 15 ∷ []) ≡ true) × (number ≡ 0)
unfolding tell
of_tell n lent r room refusal number e =
    let words = text n (name_of lent) r in
    by_cases (eqb (text_fault n lent words room) 0)
    (λ t.
    let q : text_told (length words) words ≡ text_refused refusal number = rw t at e in
    let z : ◌≡◌ {A = ℕ} 0 1 = cc in
    absurd (omega arith))
    (λ t.
    let q : text_refused (text_fault n lent words room) 0 ≡ text_refused refusal number = rw t at e in
    let a : text_fault n lent words room ≡ refusal = cc in
    let b : ◌≡◌ {A = ℕ} 0 number = cc in
    (rw (← a) (of_text n lent words room (eqb-false _ 0 t)), sym b))

pub text_refusal : (hash : List ℕ → List ℕ) (s lent : List ℕ) (room refusal number : ℕ) → text_outcome hash s lent room ≡ text_refused refusal number → TextRefusal hash s refusal number
unfolding text_outcome
text_refusal hash s lent room refusal number e = go (check_board hash s) refl
  where
    go : (v : Verdict) → check_board hash s ≡ v → TextRefusal hash s refusal number
    go (refused r k) ev =
        let q : text_refused r k ≡ text_refused refusal number = rw (ev, text_outcome) at e in
        let a : r ≡ refusal = cc in
        let b : k ≡ number = cc in
        record {
          alike = λ r' k' h. let w : refused r k ≡ refused r' k' = sym ev ∙ h in (sym a ∙ cc, sym b ∙ cc);
          others = λ rounds order winner h. let w : refused r k ≡ accepted rounds order winner = sym ev ∙ h in let z : ◌≡◌ {A = ℕ} 0 1 = cc in absurd (omega arith);
          most = rw (← b) (board_refusal hash s r k ev).most;
        }
    go (accepted rounds order winner) ev =
        let w = of_tell (header s).n lent (board_result s rounds order winner) room refusal number (rw (ev, text_outcome) at e) in
        record {
          alike = λ r k h. let v : accepted rounds order winner ≡ refused r k = sym ev ∙ h in let z : ◌≡◌ {A = ℕ} 0 1 = cc in absurd (omega arith);
          others = λ _ _ _ _. w;
          most = omega (arith, w.1);
        }

-- ---- the plain count
module _ (n : ℕ) (rankings : List (List ℕ)) where
  abbrev Ends : (fuel extra : ℕ) → Standing → Type 0
  Ends fuel extra st = ((count_from n rankings fuel st).rounds ≤ n - 1) × (count_from n rankings (fuel + extra) st ≡ count_from n rankings fuel st)

  count_ends : (fuel extra : ℕ) (st : Standing) → fuel + length st.sheets ≡ n → length st.sheets + 2 ≤ n → Ends fuel extra st
  unfolding count_from
  count_ends zero extra st f l = absurd (omega arith)
  count_ends (suc fuel) extra st f l =
      let C = counts_of n rankings st.gone in
      let one_more : suc fuel + extra ≡ suc (fuel + extra) = omega arith in
      rw one_more
      (by_cases (closes n st C (length rankings))
      (λ e. rw e (omega arith, refl))
      (λ e.
      let more : length (st.sheets ++ (C ∷ [])) ≡ length st.sheets + 1 = length-append st.sheets (C ∷ []) in
      rw e (count_ends fuel extra (next n st C) (omega arith) (omega (arith, not_last n _ st C _ refl e)))))

pub count_limit : (n extra : ℕ) (rankings : List (List ℕ)) → 2 ≤ n →
    ((plain_count n rankings).rounds ≤ n - 1) × (count_from n rankings (n + extra) start ≡ plain_count n rankings)
unfolding plain_count
count_limit n extra rankings l = count_ends n rankings n extra start (omega arith) (omega arith)

-- those read with the sheet of round m
records_in : (s : List ℕ) (h : Header) (m : ℕ) → record_number s h m h.K + 1 ≡ 1 + (h.K + 1) + m * (counted s h + 1)
records_in s h zero = omega (arith, number_first s h h.K)
records_in s h (suc m) = omega (arith, number_later s h m h.K)

pub refusals : (hash : List ℕ → List ℕ) → Refusals hash
refusals hash =
    record {
      of_boards = board_refusal hash;
      of_small = small_refusal hash;
      records_read = λ s h m. number_next s h m ∙ records_in s h m;
      of_jobs = job_refusal hash;
      of_finds = find_refusal hash;
      of_texts = text_refusal hash;
      none = λ job room. (valid hash job room, λ w. no_refusal hash job room w.0 w.1 w.2);
      of_counts = count_limit;
    }
