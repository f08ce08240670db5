-- The second demand holds, for every hash.
use Prim.Native.Nat.{ℕ, zero, suc, ◌+◌, ◌-◌, ◌≤◌, ◌<◌}
use mathlib.Core.Path.{◌≡◌, refl, sym, subst, ◌∙◌}
use mathlib.Core.Bool.{true, false, cond}
use mathlib.Core.List.{List, [], ◌∷◌}
use mathlib.Core.Logic.{◌⊎◌, inl, inr, ⊎_elim}
use native.Mathlib.Nat.{pos_of_ne-zero, eq-or-lt_of_le, lt_of_not-le}
use native.Mathlib.Numerals.{add-one}
use native.Mathlib.Omega.{arith}
use lib.Dec.{leb, eqb}
use lib.ListN.{length, length-append}
use borrow.Author.Tests.{leb-true, leb-false, eqb-true, eqb-false, eq-eqb, ne_eqb}
use Rattle.numbers.proofs.Search.{extend}
use Rattle.numbers.proofs.Tests.{by_cases}
use Rattle.rules.specs.Records.{is_counted, records_of}
use Rattle.rules.specs.Count.{wins}
use Rattle.rules.specs.Header.{ranked, Header, header, header_fault}
use Rattle.rules.specs.Check.{Verdict, accepted, refused, kind, counted, record_number, counts, ending, record_fault, round_sheet_fault, check_from, check_model, check_board}
use Rattle.whole.specs.Rules.{HeaderRules}
use Rattle.whole.specs.SecondDemand.{round_place, standing_at, out_before, closes_at, due_at, ballot_number, sheet_number, HasRecord, RecordHolds, SheetHolds, EveryRuleHolds, HoldsBefore, OpenBefore, FirstBroken, in_header, in_record, in_sheet, at_end, SecondDemand}
use Rattle.rules.proofs.Faults.{Faulty, faulty_or_none}
use Rattle.rules.proofs.Leaving.{not_last}
use Rattle.rules.proofs.Positions.{place_round, number_next, number_up, number_past, number_rounds, number_first}
use Rattle.whole.proofs.FirstFails.{first_fails}
use Rattle.whole.proofs.Rules.{header_rules, record_rules, round_sheet_rules}
use Rattle.whole.proofs.Sound.Accepted.{header_good}
use Rattle.whole.proofs.Verdicts.{in_a_record, in_the_sheet, round_read}

module _ (hash : List ℕ → List ℕ) (s : List ℕ) where
  abbrev h : Header
  h = header s

  abbrev K : ℕ
  K = (header s).K

  -- a record's number below another's: it stands in an earlier round, or before it in the same
  number_below : (r j m k : ℕ) → k ≤ K → ballot_number s r j < ballot_number s m k → (r < m) ⊎ ((r ≡ m) × (j < k))
  number_below r j m k b l =
      by_cases (leb m r)
      (λ e.
      ⊎_elim
      (λ (q : m ≡ r). inr (sym q, lt_of_not-le (λ (c : k ≤ j). omega (arith, number_up s h r k j c, rw q at l))))
      (λ (later : m < r). absurd (omega (arith, number_rounds s h m k r j later b)))
      (eq-or-lt_of_le (leb-true m r e)))
      (λ e. inl (leb-false m r e))

  sheet_below : (r m k : ℕ) → k ≤ K → sheet_number s r < ballot_number s m k → r < m
  sheet_below r m k b l = ⊎_elim (λ (e : r < m). e) (λ (e : (r ≡ m) × (K < k)). absurd (omega (arith, e.1))) (number_below r K m k b l)

  -- the header comes first
  some_number : (m k : ℕ) → 0 < ballot_number s m k
  some_number zero k = omega (arith, number_first s h k)
  some_number (suc m) k = omega (arith, number_rounds s h 0 0 (suc m) k (omega arith) (omega arith))

  -- what a ballot has no record for breaks no rule
  where_due : (m k : ℕ) → (HasRecord s h m k → RecordHolds hash s m k) → RecordHolds hash s m k
  unfolding records_of
  where_due zero k f = f refl
  where_due (suc m) k f = λ c. f (rw c) c

  -- and what breaks one is a record
  broken_due : (a m k : ℕ) → 0 < record_fault hash s h a m k → HasRecord s h m k
  unfolding records_of record_fault
  broken_due a zero k l = refl
  broken_due a (suc m) k l = by_cases (is_counted (kind s h k)) (λ c. rw c) (λ c. absurd (omega (arith, rw c at l)))

  -- before round m no rule is broken
  pub record Passed (m : ℕ) : Type 0 where
    pub head : HeaderRules hash ranked s
    pub records : (r k : ℕ) → r < m → k < K → RecordHolds hash s r k
    pub sheets : (r : ℕ) → r < m → SheetHolds hash s r

  -- and no sheet closes the board
  abbrev pub Open : (m : ℕ) → Type 0
  Open m = (r : ℕ) → r < m → closes_at s r ≡ false

  passed_start : HeaderRules hash ranked s → Passed 0
  passed_start w = record { head = w; records = λ r k l. absurd (omega arith); sheets = λ r l. absurd (omega arith) }

  pub passed_fewer : {m : ℕ} → Passed (suc m) → Passed m
  passed_fewer p = record { head = p.head; records = λ r k l. p.records r k (omega arith); sheets = λ r l. p.sheets r (omega arith) }

  passed_more : {m : ℕ} → Passed m → ((k : ℕ) → k < K → RecordHolds hash s m k) → SheetHolds hash s m → Passed (suc m)
  passed_more {m} p records sheet =
      record {
        head = p.head;
        records = λ r k l b. extend (λ (r : ℕ). (k : ℕ) → k < K → RecordHolds hash s r k) m (λ r l k b. p.records r k l b) records r l k b;
        sheets = extend (SheetHolds hash s) m p.sheets sheet;
      }

  -- the same by the records' numbers
  before_of : (m k : ℕ) → Passed m → k ≤ K → ((j : ℕ) → j < k → RecordHolds hash s m j) → HoldsBefore hash s (ballot_number s m k)
  before_of m k p b here =
      record {
        head = λ _. p.head;
        records = λ r j c _ l.
            ⊎_elim (λ (e : r < m). p.records r j e c) (λ (e : (r ≡ m) × (j < k)). subst (λ (r : ℕ). RecordHolds hash s r j) (sym e.0) (here j e.1)) (number_below r j m k b l);
        sheets = λ r l. p.sheets r (sheet_below r m k b l);
      }

  open_of : (m k : ℕ) → Open m → k ≤ K → OpenBefore hash s (ballot_number s m k)
  open_of m k o b r l = o r (sheet_below r m k b l)

  pub passed_of : (m k : ℕ) → HoldsBefore hash s (ballot_number s m k) → Passed m
  passed_of m k w =
      record {
        head = w.head (some_number m k);
        records = λ r j l c. where_due r j (λ has. w.records r j c has (number_rounds s h r j m k l (omega arith)));
        sheets = λ r l. w.sheets r (number_rounds s h r K m k l (omega arith));
      }

  pub of_open : (m k : ℕ) → OpenBefore hash s (ballot_number s m k) → Open m
  of_open m k o r l = o r (number_rounds s h r K m k l (omega arith))

  round_of : (m k : ℕ) → k ≤ K → HoldsBefore hash s (ballot_number s m k) → (j : ℕ) → j < k → record_fault hash s h (out_before s m) m j ≡ 0
  round_of m k b w j l =
      (record_rules hash s h (out_before s m) m j).1 (where_due m j (λ has. w.records m j (omega arith) has (omega (arith, number_past s h m j k l))))

  -- past the sheet of round m
  pub next_number : (m : ℕ) → sheet_number s m + 1 ≡ ballot_number s (suc m) 0
  next_number m = sym (number_next s h m)

  -- ---- the checker reaches round m
  sheets_counted : (m : ℕ) → length (standing_at s m).sheets ≡ m
  unfolding standing_at
  sheets_counted zero = refl
  sheets_counted (suc m) = omega (arith, length-append (standing_at s m).sheets (counts s h m ∷ []), sheets_counted m)

  pub early : (m : ℕ) → HeaderRules hash ranked s → Open m → m + 2 ≤ h.n
  early zero w o = (header_good hash s w).two
  early (suc m) w o = omega (arith, early m w (λ r l. o r (omega arith)), not_last h.n m (standing_at s m) _ (counted s h) (sheets_counted m) (o m (omega arith)))

  -- round m as the checker reads it, with what comes after
  abbrev Round : (m fuel : ℕ) → Verdict
  Round m fuel = check_from hash s h (suc fuel) (standing_at s m) m (out_before s m)

  -- a round that keeps its rules
  module _ (m fuel : ℕ) (records : (k : ℕ) → k < K → RecordHolds hash s m k) (sheet : SheetHolds hash s m) where
    goes_on_lem : Round m fuel ≡ cond (closes_at s m) (ending s h (standing_at s m) m) (check_from hash s h fuel (standing_at s (suc m)) (suc m) (out_before s (suc m)))
    unfolding standing_at out_before
    goes_on_lem =
        round_read hash s h fuel (standing_at s m) m (out_before s m) (λ k l. (record_rules hash s h (out_before s m) m k).1 (records k l)) ((round_sheet_rules s h m (due_at s m)).1 sheet)

    ends_here : closes_at s m ≡ true → length s ≡ round_place s (suc m) → Round m fuel ≡ accepted (m + 1) (standing_at s m).gone (wins h.n (standing_at s m) (counts s h m))
    ends_here e l = goes_on_lem ∙ rw (e, eq-eqb (length s) (round_place s (suc m)) l)

    bytes_remain : closes_at s m ≡ true → round_place s (suc m) < length s → Round m fuel ≡ refused 12 (sheet_number s m + 1)
    bytes_remain e l = goes_on_lem ∙ rw (e, ne_eqb (length s) (round_place s (suc m)) (λ z. omega arith), next_number m)

  -- it comes to round m if no rule is broken before
  reach : (m fuel : ℕ) → Passed m → Open m → fuel + m ≡ h.n → check_board hash s ≡ check_from hash s h fuel (standing_at s m) m (out_before s m)
  unfolding check_model standing_at out_before
  reach zero fuel p o e = let same : fuel ≡ h.n = omega arith in rw ((header_rules hash ranked s).1 p.head, same)
  reach (suc m) fuel p o e =
      reach m (suc fuel) (passed_fewer p) (λ r l. o r (omega arith)) (omega arith)
      ∙ goes_on_lem m fuel (λ k. p.records m k (omega arith)) (p.sheets m (omega arith))
      ∙ rw (o m (omega arith))

  pub sheet_fits : (m : ℕ) → SheetHolds hash s m → round_place s (suc m) ≤ length s
  sheet_fits m w = rw (place_round s h m) w.fits

  -- ---- what the verdict says
  abbrev Says : Verdict → Type 0
  Says (accepted rounds order winner) = EveryRuleHolds hash s rounds order winner
  Says (refused refusal number) = FirstBroken hash s refusal number

  -- of the round that closes the board
  closing : (m : ℕ) → Passed (suc m) → Open m → closes_at s m ≡ true → length s ≡ round_place s (suc m) →
      EveryRuleHolds hash s (m + 1) (standing_at s m).gone (wins h.n (standing_at s m) (counts s h m))
  closing m p o e l =
      record {
        head = p.head;
        records = λ r k b. p.records r k (omega arith);
        sheets = λ r b. p.sheets r (omega arith);
        last = m;
        rounds_are = refl;
        closed = e;
        not_before = o;
        ends = rw add-one l;
        order_is = refl;
        winner_is = refl;
      }

  -- from round m on
  said : (fuel m : ℕ) → Passed m → Open m → fuel + m ≡ h.n → Says (check_from hash s h fuel (standing_at s m) m (out_before s m))
  said zero m p o e = absurd (omega (arith, early m p.head o))
  said (suc fuel) m p o e =
      ⊎_elim
      (λ (w : (w : ℕ × ℕ) × Faulty K (record_fault hash s h (out_before s m) m) w).
      let f = w.1 in
      let k = w.0.0 in
      let low = pos_of_ne-zero f.some_fault in
      let small : k ≤ K = omega (arith, f.below) in
      subst Says (sym (in_a_record hash s h fuel (standing_at s m) m (out_before s m) k f.below f.earlier low))
      (in_record m k f.below (broken_due (out_before s m) m k low) refl (before_of m k p small (λ j l. (record_rules hash s h (out_before s m) m j).0 (f.earlier j l))) (open_of m k o small) refl low))
      (λ (good : (k : ℕ) → k < K → record_fault hash s h (out_before s m) m k ≡ 0).
      let records : (k : ℕ) → k < K → RecordHolds hash s m k = λ k l. (record_rules hash s h (out_before s m) m k).0 (good k l) in
      by_cases (eqb (round_sheet_fault s h m (due_at s m)) 0)
      (λ z.
      let sheet = (round_sheet_rules s h m (due_at s m)).0 (eqb-true _ _ z) in
      let p' = passed_more p records sheet in
      by_cases (closes_at s m)
      (λ c.
      ⊎_elim
      (λ (l : round_place s (suc m) ≡ length s). subst Says (sym (ends_here m fuel records sheet c (sym l))) (closing m p' o c (sym l)))
      (λ (l : round_place s (suc m) < length s).
      subst Says (sym (bytes_remain m fuel records sheet c l))
      (at_end m refl (subst (HoldsBefore hash s) (sym (next_number m)) (before_of (suc m) 0 p' (omega arith) (λ j l. absurd (omega arith)))) (open_of m K o (omega arith)) c l refl))
      (eq-or-lt_of_le (sheet_fits m sheet)))
      (λ c. rw (goes_on_lem m fuel records sheet, c) (said fuel (suc m) p' (extend (λ (r : ℕ). closes_at s r ≡ false) m o c) (omega arith))))
      (λ z.
      let low = pos_of_ne-zero (eqb-false _ _ z) in
      subst Says (sym (in_the_sheet hash s h fuel (standing_at s m) m (out_before s m) good low)) (in_sheet m refl (before_of m K p (omega arith) records) (open_of m K o (omega arith)) refl low)))
      (faulty_or_none K (record_fault hash s h (out_before s m) m))

  board_said : Says (check_board hash s)
  unfolding check_model
  board_said =
      by_cases (eqb (header_fault hash ranked s) 0)
      (λ z. rw z (unfold standing_at out_before in (said h.n 0 (passed_start ((header_rules hash ranked s).0 (eqb-true _ _ z))) (λ r l. absurd (omega arith)) (omega arith))))
      (λ z. rw z (in_header refl refl (pos_of_ne-zero (eqb-false _ _ z))))

  -- ---- the verdict that is due
  reached : (m : ℕ) → Passed m → Open m → check_board hash s ≡ Round m (h.n - suc m)
  reached m p o = reach m (suc (h.n - suc m)) p o (omega (arith, early m p.head o))

  accepts : (rounds : ℕ) (order : List ℕ) (winner : ℕ) → EveryRuleHolds hash s rounds order winner → check_board hash s ≡ accepted rounds order winner
  accepts rounds order winner w =
      let m = w.last in
      let one : m < rounds = omega (arith, w.rounds_are) in
      let p : Passed m = record { head = w.head; records = λ r k l. w.records r k (omega arith); sheets = λ r l. w.sheets r (omega arith) } in
      let whole : length s ≡ round_place s (suc m) = rw (w.rounds_are, add-one) at w.ends in
      reached m p w.not_before
      ∙ ends_here m _ (λ k. w.records m k one) (w.sheets m one) w.closed whole
      ∙ cc (w.rounds_are, w.order_is, w.winner_is)

  refuses : (refusal number : ℕ) → FirstBroken hash s refusal number → check_board hash s ≡ refused refusal number
  unfolding check_model
  refuses refusal number (in_header e broken low) = rw (ne_eqb (header_fault hash ranked s) 0 (λ z. omega arith), broken, e)
  refuses refusal number (in_record m k l _ e before o broken low) =
      let w = rw e at before in
      reached m (passed_of m k w) (of_open m k (rw e at o)) ∙ in_a_record hash s h _ (standing_at s m) m (out_before s m) k l (round_of m k (omega arith) w) (rw broken low) ∙ cc
  refuses refusal number (in_sheet m e before o broken low) =
      let w = rw e at before in
      reached m (passed_of m K w) (of_open m K (rw e at o)) ∙ in_the_sheet hash s h _ (standing_at s m) m (out_before s m) (round_of m K (omega arith) w) (rw broken low) ∙ cc
  refuses refusal number (at_end m e before o closed remain numbered) =
      let p = passed_of (suc m) 0 (rw (e, next_number m) at before) in
      reached m (passed_fewer p) (of_open m K o)
      ∙ bytes_remain m _ (λ k. p.records m k (omega arith)) (p.sheets m (omega arith)) closed remain
      ∙ cc

  either : ((rounds : ℕ) × (order : List ℕ) × (winner : ℕ) × EveryRuleHolds hash s rounds order winner) ⊎ ((refusal : ℕ) × (number : ℕ) × FirstBroken hash s refusal number)
  either = go (check_board hash s) board_said
    where
      go : (v : Verdict) → Says v → ((rounds : ℕ) × (order : List ℕ) × (winner : ℕ) × EveryRuleHolds hash s rounds order winner) ⊎ ((refusal : ℕ) × (number : ℕ) × FirstBroken hash s refusal number)
      go (accepted rounds order winner) w = inl (rounds, order, winner, w)
      go (refused refusal number) w = inr (refusal, number, w)

-- ---- a number names one record
module _ (s : List ℕ) (h : Header) where
  same_round : (m k r j : ℕ) → k ≤ h.K → j ≤ h.K → record_number s h m k ≡ record_number s h r j → m ≡ r
  same_round m k r j a b e =
      by_cases (leb m r)
      (λ t. ⊎_elim (λ (q : m ≡ r). q) (λ (l : m < r). absurd (omega (arith, number_rounds s h m k r j l a))) (eq-or-lt_of_le (leb-true m r t)))
      (λ t. absurd (omega (arith, number_rounds s h r j m k (leb-false m r t) b)))

  no_sheet : (m k r : ℕ) → k < h.K → HasRecord s h m k → record_number s h m k ≡ record_number s h r h.K → ⊥
  no_sheet m k r l has e =
      let same = same_round m k r h.K (omega arith) (omega arith) e in omega (arith, rw (← same) at e, number_past s h m k h.K l)

  one_record : (m k r j : ℕ) → k < h.K → j < h.K → HasRecord s h m k → HasRecord s h r j → record_number s h m k ≡ record_number s h r j → (m ≡ r) × (k ≡ j)
  one_record m k r j a b has has' e =
      let same = same_round m k r j (omega arith) (omega arith) e in
      let here : record_number s h m k ≡ record_number s h m j = rw (← same) at e in
      let has'' : HasRecord s h m j = rw (← same) at has' in (
        same,
        by_cases (leb k j)
            (λ t. ⊎_elim (λ (q : k ≡ j). q) (λ (l : k < j). absurd (omega (arith, number_past s h m k j l))) (eq-or-lt_of_le (leb-true k j t)))
            (λ t. absurd (omega (arith, number_past s h m j k (leb-false k j t)))),
      )

pub second_demand : (hash : List ℕ → List ℕ) → SecondDemand hash
second_demand hash =
    record {
      accepted_iff = λ s rounds order winner. (λ e. subst (Says hash s) e (board_said hash s), accepts hash s rounds order winner);
      refused_iff = λ s refusal number. (λ e. subst (Says hash s) e (board_said hash s), refuses hash s refusal number);
      either = either hash;
      one_record = one_record;
      no_sheet = no_sheet;
      first_fails = first_fails;
      header_tests = header_rules hash;
      record_tests = record_rules hash;
      sheet_tests = round_sheet_rules;
    }
