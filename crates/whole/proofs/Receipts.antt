-- What is claimed of finding receipts holds, for every hash.
use Prim.Native.Nat.{ℕ, suc, ◌+◌, ◌-◌, ◌≤◌, ◌<◌}
use mathlib.Core.Path.{◌≡◌, refl, sym, ap, subst, subst⁻¹, ◌∙◌}
use mathlib.Core.Bool.{Bool, true, false, true≢false}
use mathlib.Core.List.{List, [], ◌∷◌}
use mathlib.Core.Logic.{◌⊎◌, inl, inr, ⊎_elim}
use mathlib.Core.Option.{Option, none, some}
use native.Mathlib.Nat.{pos_of_ne-zero, eq-or-lt_of_le, le_of_suc-le-suc, lt_of_not-le}
use native.Mathlib.Omega.{arith}
use lib.Dec.{eqb}
use lib.ListN.{length, get_or, length-take, length-drop}
use lib.Seq.{take_all}
use borrow.Author.Tests.{eqb-true}
use Rattle.numbers.specs.Below.{all_below}
use Rattle.numbers.proofs.Search.{First, first_is, first_of}
use Rattle.numbers.proofs.Tests.{by_cases}
use Rattle.sha256.specs.Message.{sha256}
use Rattle.sha256.proofs.Lengths.{digest_long}
use Rattle.rules.specs.Bytes.{part}
use Rattle.rules.specs.Records.{ballot_length}
use Rattle.rules.specs.Count.{table, start}
use Rattle.rules.specs.Tests.{first_fault, fault_below}
use Rattle.rules.specs.Header.{ranked, Header, header, header_fault}
use Rattle.rules.specs.Check.{place, kind, accepted, refused, record_number, record_fault, check_from, check_model, check_board}
use Rattle.rules.specs.Receipts.{digest_count, digest_at, same, digests_good, list_fault, ballot_record, frame_fault, Finding, numbers_found, find_refused, number_of, find_in_ballots, find_on_board, find_outcome}
use Rattle.rules.proofs.Faults.{Faulty, first_faulty, faulty_or_none, fault_front}
use Rattle.rules.proofs.Digests.{same_true, same_refl}
use Rattle.rules.proofs.Lists.{length_table, table_at}
use Rattle.rules.proofs.Places.{part_stands}
use Rattle.rules.proofs.Positions.{number_first}
use Rattle.jobs.specs.Job.{Job, group_of, kind_of, rows_of}
use Rattle.jobs.specs.Board.{job_draws, job_ballot, board}
use Rattle.jobs.specs.Write.{Valid}
use Rattle.jobs.proofs.FineJob.{fine}
use Rattle.jobs.proofs.Lengths.{length_ballot}
use Rattle.whole.specs.Receipts.{IsNumberOf, Answered, LongDigests, Receipts}
use Rattle.whole.proofs.Rules.{header_rules}
use Rattle.whole.proofs.Sound.Accepted.{header_good}
use Rattle.whole.proofs.Verdicts.{in_a_record}
use Rattle.whole.proofs.Complete.{header_same, kinds_same, ballot_stands}
use Rattle.whole.proofs.ThirdDemand.{third_demand}

-- an outcome is one or the other
refused_numbers : {refusal number : ℕ} {numbers : List ℕ} → find_refused refusal number ≡ numbers_found numbers → ⊥
refused_numbers e = let z : ◌≡◌ {A = ℕ} 0 1 = cc in omega arith

-- a list of one digest is fine for one place
one_fine : (digest : List ℕ) → length digest ≡ 32 → list_fault digest 1 ≡ 0
unfolding list_fault digests_good first_fault all_below
one_fine digest e = rw e

-- a digest of a list has 32 bytes
one_long : (digests : List ℕ) (i : ℕ) → i < digest_count digests → length (digest_at digests i) ≡ 32
one_long digests i l = simp (length-take, length-drop) (omega arith)

one_is : (digest : List ℕ) → length digest ≡ 32 → digest_at digest 0 ≡ digest
one_is digest e = take_all 32 digest (omega arith)

module _ (hash : List ℕ → List ℕ) (s : List ℕ) where
  -- with a list that is fine, the board decides
  on_board_lem : (digests : List ℕ) (room : ℕ) → list_fault digests room ≡ 0 → find_outcome hash s digests room ≡ find_on_board hash s digests
  unfolding find_outcome
  on_board_lem digests room e = rw e

  -- a list that is answered is fine
  answered_fine : (digests : List ℕ) (room : ℕ) (numbers : List ℕ) → find_outcome hash s digests room ≡ numbers_found numbers → list_fault digests room ≡ 0
  unfolding find_outcome
  answered_fine digests room numbers e =
      by_cases (eqb (list_fault digests room) 0)
      (λ z. eqb-true _ 0 z)
      (λ z. absurd (refused_numbers (rw (z, find_outcome) at e)))

  abbrev numbers_of : (digests : List ℕ) → List ℕ
  numbers_of digests = table (digest_count digests) (λ i. number_of hash s (digest_at digests i))

  -- the board decides for every list alike
  walked : (digests numbers : List ℕ) → find_on_board hash s digests ≡ numbers_found numbers → (ds : List ℕ) → find_on_board hash s ds ≡ numbers_found (numbers_of ds)
  unfolding find_on_board find_in_ballots
  walked digests numbers e ds = go (eqb (header_fault hash ranked s) 0) (fault_below (header s).K (frame_fault s)) refl refl
    where
      go : (b : Bool) (v : Option (ℕ × ℕ)) → eqb (header_fault hash ranked s) 0 ≡ b → fault_below (header s).K (frame_fault s) ≡ v → find_on_board hash s ds ≡ numbers_found (numbers_of ds)
      go true none eb ev = rw (eb, find_on_board, ev, find_in_ballots)
      go true (some w) eb ev = absurd (refused_numbers (rw (eb, find_on_board, ev, find_in_ballots) at e))
      go false v eb ev = absurd (refused_numbers (rw (eb, find_on_board) at e))

  -- what an answered list holds, and that any other list is answered
  module _ (digests : List ℕ) (room : ℕ) (numbers : List ℕ) (e : find_outcome hash s digests room ≡ numbers_found numbers) where
    found_here : find_on_board hash s digests ≡ numbers_found numbers
    found_here = sym (on_board_lem digests room (answered_fine digests room numbers e)) ∙ e

    numbers_are : numbers ≡ numbers_of digests
    numbers_are = let q = sym found_here ∙ walked digests numbers found_here digests in cc

    number_at : (i : ℕ) → i < digest_count digests → get_or numbers i 0 ≡ number_of hash s (digest_at digests i)
    number_at i l = rw numbers_are (table_at (digest_count digests) _ 0 i l)

    -- a list of one digest
    one_answered : (digest : List ℕ) → length digest ≡ 32 → find_outcome hash s digest 1 ≡ numbers_found (number_of hash s digest ∷ [])
    unfolding table
    one_answered digest long =
        on_board_lem digest 1 (one_fine digest long) ∙ walked digests numbers found_here digest ∙ rw long (ap (λ (d : List ℕ). numbers_found (number_of hash s d ∷ [])) (one_is digest long))

  -- the number that is found
  number_is_lowest : (digest : List ℕ) → IsNumberOf hash s digest (number_of hash s digest)
  number_is_lowest digest = go (first_is (header s).K (λ k. same (hash (ballot_record s k)) digest))
    where
      other : (k : ℕ) → same (hash (ballot_record s k)) digest ≡ false → hash (ballot_record s k) ≡ digest → ⊥
      other k f e = true≢false (sym (rw e (same_refl digest)) ∙ f)

      go : First (header s).K (λ k. same (hash (ballot_record s k)) digest) (number_of hash s digest) → IsNumberOf hash s digest (number_of hash s digest)
      go (inl (z, f)) = inl (z, λ k l. other k (f k l))
      go (inr (k, q, l, t, f)) = inr (k, q, l, same_true _ digest t, λ j b. other j (f j b))

  -- ---- the checker's verdict on a board that is refused here
  abbrev fault : (k : ℕ) → ℕ
  fault k = record_fault hash s (header s) 0 0 k

  -- a frame's fault is the record's
  record_fault_lem : (k : ℕ) → (frame_fault s k ≡ 0 → ⊥) → fault k ≡ frame_fault s k
  unfolding record_fault
  record_fault_lem k bad = fault_front _ _ bad

  -- the first ballot whose record has a fault
  first_record : header_fault hash ranked s ≡ 0 → (w : ℕ × ℕ) → Faulty (header s).K fault w → check_board hash s ≡ refused (fault w.0) (record_number s (header s) 0 w.0)
  unfolding check_model
  first_record z w f =
      let rounds : suc ((header s).n - 1) ≡ (header s).n = omega (arith, (header_good hash s ((header_rules hash ranked s).0 z)).two) in
      rw z
      (subst (λ (n : ℕ). check_from hash s (header s) n start 0 0 ≡ refused (fault w.0) (record_number s (header s) 0 w.0)) rounds
      (in_a_record hash s (header s) ((header s).n - 1) start 0 0 w.0 f.below f.earlier (pos_of_ne-zero f.some_fault)))

  abbrev RefusedToo : (refusal number : ℕ) → Type 0
  RefusedToo refusal number = (r k : ℕ) × (check_board hash s ≡ refused r k) × (((r ≡ refusal) × (k ≡ number)) ⊎ (k < number))

  in_ballots : header_fault hash ranked s ≡ 0 → (w : ℕ × ℕ) → Faulty (header s).K (frame_fault s) w → RefusedToo w.1 (record_number s (header s) 0 w.0)
  in_ballots z w f =
      let here : fault w.0 ≡ w.1 = record_fault_lem w.0 f.some_fault ∙ sym f.fault in
      let bad : fault w.0 ≡ 0 → ⊥ = λ e. f.some_fault (sym (record_fault_lem w.0 f.some_fault) ∙ e) in
      ⊎_elim
      (λ (g : (v : ℕ × ℕ) × Faulty (header s).K fault v).
      let k = g.0.0 in (
        fault k,
        record_number s (header s) 0 k,
        first_record z g.0 g.1,
        ⊎_elim (λ (e : k ≡ w.0). inl (ap fault e ∙ here, ap (record_number s (header s) 0) e)) (λ (l : k < w.0). inr (omega (arith, number_first s (header s) k, number_first s (header s) w.0)))
            (eq-or-lt_of_le (le_of_suc-le-suc (lt_of_not-le (λ (l : w.0 < k). bad (g.1.earlier w.0 l))))),
      ))
      (λ (none : (k : ℕ) → k < (header s).K → fault k ≡ 0). absurd (bad (none w.0 f.below)))
      (faulty_or_none (header s).K fault)

  refused_too : (digests : List ℕ) (room refusal number : ℕ) → list_fault digests room ≡ 0 → find_outcome hash s digests room ≡ find_refused refusal number → RefusedToo refusal number
  unfolding find_on_board find_in_ballots
  refused_too digests room refusal number fine e = go (eqb (header_fault hash ranked s) 0) (fault_below (header s).K (frame_fault s)) refl refl
    where
      here : find_on_board hash s digests ≡ find_refused refusal number
      here = sym (on_board_lem digests room fine) ∙ e

      same_as : (r k : ℕ) → find_refused r k ≡ find_refused refusal number → RefusedToo r k → RefusedToo refusal number
      same_as r k q w = let a : r ≡ refusal = cc in let b : k ≡ number = cc in rw (← a, ← b) w

      go : (b : Bool) (v : Option (ℕ × ℕ)) → eqb (header_fault hash ranked s) 0 ≡ b → fault_below (header s).K (frame_fault s) ≡ v → RefusedToo refusal number
      go true none eb ev = absurd (refused_numbers (sym (rw (eb, find_on_board, ev, find_in_ballots) at here)))
      go true (some w) eb ev =
          same_as w.1 (record_number s (header s) 0 w.0) (rw (eb, find_on_board, ev, find_in_ballots) at here) (in_ballots (eqb-true _ 0 eb) w (first_faulty (header s).K (frame_fault s) w ev))
      go false v eb ev = same_as (header_fault hash ranked s) 0 (rw (eb, find_on_board) at here) ((unfold check_model in (header_fault hash ranked s, 0, rw eb, inl (refl, refl))))

  -- an accepted board is refused by none
  accepted_answered : (rounds : ℕ) (order : List ℕ) (winner : ℕ) → check_board hash s ≡ accepted rounds order winner → Answered hash s
  accepted_answered rounds order winner a digests room fine = go (find_outcome hash s digests room) refl
    where
      go : (o : Finding) → find_outcome hash s digests room ≡ o → (numbers : List ℕ) × (find_outcome hash s digests room ≡ numbers_found numbers)
      go (numbers_found numbers) e = (numbers, e)
      go (find_refused refusal number) e =
          let w = refused_too digests room refusal number fine e in let q = sym a ∙ w.2 in let z : ◌≡◌ {A = ℕ} 0 1 = cc in absurd (omega arith)

-- ---- on a board written by the rules
module _ (hash : List ℕ → List ℕ) (job : Job) (v : Valid hash job) where
  abbrev s : List ℕ
  s = board hash job

  abbrev ballot : ℕ → List ℕ
  ballot = job_ballot hash job (group_of hash job)

  -- the record on the board is the one written
  record_is : (k : ℕ) → k < job.K → ballot_record s k ≡ ballot k
  record_is k l =
      let f = fine hash job v in
      subst⁻¹ (λ (h : Header). part s (place s h 0 k) (ballot_length h.n (kind s h k)) ≡ ballot k) (header_same hash job f)
      (rw (kinds_same hash job f k l)
      (part_stands (length_ballot hash job.label (group_of hash job) job.n (k + 1) (rows_of job [] k) job.draws (job_draws job 0 k) (kind_of job k)) (ballot_stands hash job f k l)))

  written_found : (k : ℕ) → k < job.K → length (hash (ballot k)) ≡ 32 →
      (j : ℕ) × (j ≤ k) × (hash (ballot j) ≡ hash (ballot k)) × (find_outcome hash s (hash (ballot k)) 1 ≡ numbers_found (suc j ∷ []))
  written_found k l long =
      let w = (third_demand hash).fixed_boards job v in
      let K : (header s).K ≡ job.K = ap (λ (h : Header). h.K) w.heads in
      let a = accepted_answered hash s _ _ _ w.accepts (hash (ballot k)) 1 (one_fine (hash (ballot k)) long) in
      let (j, q, b, t) = first_of (header s).K (λ i. same (hash (ballot_record s i)) (hash (ballot k))) k (omega arith) (rw (record_is k l) (same_refl (hash (ballot k)))) in
      (j, b, rw (record_is j (omega arith)) at (same_true _ _ t), one_answered hash s _ 1 a.0 a.1 (hash (ballot k)) long ∙ rw q)

pub receipts : (hash : List ℕ → List ℕ) → Receipts hash
receipts hash =
    record {
      alone = λ s digests room numbers e. (
        ap length (numbers_are hash s digests room numbers e) ∙ length_table _ _,
        λ i l. one_answered hash s digests room numbers e (digest_at digests i) (one_long digests i l) ∙ ap (λ (x : ℕ). numbers_found (x ∷ [])) (sym (number_at hash s digests room numbers e i l)),
      );
      each = λ s digests room numbers e i l. rw (number_at hash s digests room numbers e i l) (number_is_lowest hash s (digest_at digests i));
      accepted_answered = accepted_answered hash;
      refused_too = refused_too hash;
      written_found = λ long job v k l. written_found hash job v k l (long _);
    }

pub sha256_long : LongDigests sha256
sha256_long = digest_long
