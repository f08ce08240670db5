-- A record has no fault just where its rules hold: each at any place, then all where a board has them.
use Prim.Native.Nat.{ℕ, zero, suc, ◌+◌, ◌-◌, ◌≤◌, ◌<◌}
use mathlib.Core.Path.{◌≡◌, refl}
use mathlib.Core.Bool.{Bool, true, false, cond, ◌||◌, and-eq-true_iff, false≢true}
use mathlib.Core.List.{List, ◌∷◌, ◌++◌, append_assoc}
use mathlib.Core.Logic.{◌↔◌, ◌⊎◌, inl, inr}
use native.Mathlib.Nat.{pos_of_ne-zero}
use native.Mathlib.Omega.{arith}
use lib.Dec.{leb, eqb}
use borrow.Author.Tests.{leb-true, le-leb, eqb-true, eqb-false, eq-eqb, ne_eqb, not-true}
use Rattle.numbers.specs.Below.{all_below, sum_below, prod_below}
use Rattle.numbers.proofs.Search.{extend}
use Rattle.numbers.proofs.Tests.{all_at, all_true, by_cases}
use Rattle.numbers.proofs.Sums.{some_picked}
use Rattle.group.specs.Elements.{Parameters}
use Rattle.rules.specs.Claims.{Matrix}
use Rattle.rules.specs.Proofs.{Statement, Context, statement_holds, proof_fields, proof_holds}
use Rattle.rules.specs.Tests.{Test, first_fault, ◌or_else◌}
use Rattle.rules.specs.Header.{Header, header, header_fault}
use Rattle.rules.specs.Records.{kind_at, is_counted, is_audited}
use Rattle.rules.specs.Audit.{exponents_good, opens_as_shown}
use Rattle.rules.specs.Ballot.{pairs_good, ballot_fields, ballot_proofs, ballot_tests}
use Rattle.rules.specs.Shift.{shift_fields, shift_holds, shift_fault}
use Rattle.rules.specs.Sheet.{Tally, count_at, exponent_at, sheet_fields, tallies, sheet_fault}
use Rattle.rules.specs.Check.{place, pairs_place, kind, counted, matrix, some_counted, record_fault, round_sheet_fault}
use Rattle.rules.specs.declared.Model.{Model}
use Rattle.rules.proofs.Faults.{first_holds, all_hold, fault_none}
use Rattle.rules.proofs.Positions.{tally_b, tally_y}
use Rattle.whole.specs.Rules.{PairRules, ProofFields, ProofEquations, HeaderRules, ShownRules, BallotRules, ShiftRules, SheetRules}
use Rattle.whole.specs.SecondDemand.{RecordRules, RoundSheetRules}

-- ---- tests as statements
-- a test that has a refusal, and the tests after it
first_iff : (b : Bool) (r : ℕ) (ts : List Test) → eqb r 0 ≡ false → (first_fault ((b or_else r) ∷ ts) ≡ 0) ↔ ((b ≡ true) × (first_fault ts ≡ 0))
first_iff b r ts l = (first_holds _ _ (pos_of_ne-zero (eqb-false r 0 l)), λ w. all_hold _ _ w.0 w.1)

all_iff : (n : ℕ) (f : ℕ → Bool) → (all_below n f ≡ true) ↔ ((i : ℕ) → i < n → f i ≡ true)
all_iff n f = (all_at n f, all_true n f)

leb_iff : (a b : ℕ) → (leb a b ≡ true) ↔ (a ≤ b)
leb_iff a b = (leb-true a b, le-leb a b)

eqb_iff : (a b : ℕ) → (eqb a b ≡ true) ↔ (a ≡ b)
eqb_iff a b = (eqb-true a b, eq-eqb a b)

-- 17
pub kind_iff : (kind : ℕ) → ((is_counted kind || is_audited kind) ≡ true) ↔ ((kind ≡ 0) ⊎ (kind ≡ 1))
kind_iff kind = (
  λ t. by_cases (is_counted kind) (λ e. inl (eqb-true kind 0 e)) (λ e. inr (eqb-true kind 1 (rw e at t))),
  λ w. elim w [ inl e ↦ rw e | inr e ↦ rw e ],
)

-- a test that is made where another passes
when_iff : (b t : Bool) → (cond b t true ≡ true) ↔ (b ≡ true → t ≡ true)
when_iff true t = (λ e _. e, λ f. f refl)
when_iff false t = (λ _ e. absurd (false≢true e), λ _. refl)

-- ---- pairs and proofs
pub pair_rules : (h : Header) (rows : ℕ) (M : Matrix) → (pairs_good h rows M ≡ true) ↔ PairRules h.group rows h.n M
unfolding pairs_good
pair_rules h rows M = (
  λ t. let w = simp (all_iff, and-eq-true_iff) at t in record { b_element = λ i j a b. (w i a j b).0; y_element = λ i j a b. (w i a j b).1 },
  λ w. simp (all_iff, and-eq-true_iff) (λ i a j b. (w.b_element i j a b, w.y_element i j a b)),
)

module _ (s : List ℕ) (g : Parameters) (at branches statements : ℕ) where
  field_rules : (proof_fields s at branches statements g.p g.q ≡ true) ↔ ProofFields s g at branches statements
  unfolding proof_fields
  field_rules = (
    λ t.
        let w = simp (all_iff, and-eq-true_iff, leb_iff) at t in
        record {
          e_below = λ l b. (w l b).0;
          t1_element = λ l i b c. ((w l b).1 i c).0.0;
          t2_element = λ l i b c. ((w l b).1 i c).0.1;
          r_below = λ l i b c. ((w l b).1 i c).1;
        },
    λ w. simp (all_iff, and-eq-true_iff, leb_iff) (λ l b. (w.e_below l b, λ i c. ((w.t1_element l i b c, w.t2_element l i b c), w.r_below l i b c))),
  )

  proof_rules : (hash : List ℕ → List ℕ) (label : List ℕ) (context : Context) (base0 base1 : ℕ) (claim : ℕ → ℕ → Statement) →
      (proof_holds s at branches statements hash label context g.p g.q base0 base1 claim ≡ true) ↔ ProofEquations s g at branches statements hash label context base0 base1 claim
  unfolding proof_holds statement_holds
  proof_rules hash label context base0 base1 claim = (
    λ t.
        let w = simp (all_iff, and-eq-true_iff, eqb_iff) at t in
        record { first = λ l i b c. (w.0 l b i c).0; second = λ l i b c. (w.0 l b i c).1; adds_up = w.1 },
    λ w. simp (all_iff, and-eq-true_iff, eqb_iff) (λ l b i c. (w.first l i b c, w.second l i b c), w.adds_up),
  )

-- ---- the records, each at any place
pub header_rules : (hash : List ℕ → List ℕ) (model : Model) (s : List ℕ) → (header_fault hash model s ≡ 0) ↔ HeaderRules hash model s
unfolding header_fault header
header_rules hash model s = (
  λ f.
      let (fits, (marked, (sized, (limited, (ordered, (generated, _)))))) = simp (first_iff, leb_iff) at f in
      record { fits = fits; marked = marked; sized = sized; limited = limited; ordered = ordered; generated = generated },
  λ w. simp (first_iff, leb_iff) (w.fits, (w.marked, (w.sized, (w.limited, (w.ordered, (w.generated, fault_none)))))),
)

-- of an audited record, 7 and 18
shown_rules : (s : List ℕ) (h : Header) (at : ℕ) → ((exponents_good s h at ≡ true) × (opens_as_shown s h at ≡ true)) ↔ ShownRules s h at
unfolding exponents_good opens_as_shown
shown_rules s h at = (
  λ t.
      let small = simp (all_iff, leb_iff) at t.0 in
      let (ranking, opens) = simp (all_iff, and-eq-true_iff, eqb_iff) at t.1 in
      record { small = λ i j a b. small i a j b; ranking = ranking; opens_b = λ i j a b. (opens i a j b).0; opens_y = λ i j a b. (opens i a j b).1 },
  λ w. (
    simp (all_iff, leb_iff) (λ i a j b. w.small i j a b),
    simp (all_iff, and-eq-true_iff, eqb_iff) (w.ranking, λ i a j b. (w.opens_b i j a b, w.opens_y i j a b)),
  ),
)

module _ (hash : List ℕ → List ℕ) (s : List ℕ) (h : Header) where
  ballot_rules : (at number : ℕ) (rest : List Test) → (first_fault (ballot_tests hash s h at number ++ rest) ≡ 0) ↔ (BallotRules hash s h at number × (first_fault rest ≡ 0))
  unfolding ballot_fields ballot_proofs
  ballot_rules at number rest = (
    λ f.
        let (fits, (marked, (numbered, (kinded, (f7, (f8, (f18, later))))))) = simp (first_iff, leb_iff, eqb_iff, kind_iff) at f in
        let fields = simp (all_iff, and-eq-true_iff, pair_rules h, field_rules s h.group) at f7 in
        let proofs = simp (all_iff, and-eq-true_iff, proof_rules s h.group) at f8 in (
          record {
            fits = fits;
            marked = marked;
            numbered = numbered;
            kinded = kinded;
            pairs = fields.0.0.0.0;
            entry_fields = λ i j a b. fields.0.0.0.1 i a j b;
            row_fields = fields.0.0.1;
            column_fields = fields.0.1;
            entries = λ i j a b. proofs.0.0 i a j b;
            rows = proofs.0.1;
            columns = proofs.1;
            shown = λ e. (shown_rules s h at).0 ((when_iff _ _).0 fields.1 e, (when_iff _ _).0 f18 e);
          },
          later,
        ),
    λ v.
        let w = v.0 in
        let audited : (is_audited (kind_at s at) ≡ true → (exponents_good s h at ≡ true) × (opens_as_shown s h at ≡ true)) = λ e. (shown_rules s h at).1 (w.shown e) in
        let fields : ballot_fields s h at ≡ true =
        simp (all_iff, and-eq-true_iff, pair_rules h, field_rules s h.group)
        ((((w.pairs, λ i a j b. w.entry_fields i j a b), w.row_fields), w.column_fields), (when_iff _ _).1 (λ e. (audited e).0)) in
        let proofs : ballot_proofs hash s h at ≡ true =
        simp (all_iff, and-eq-true_iff, proof_rules s h.group) ((λ i a j b. w.entries i j a b, w.rows), w.columns) in
        simp (first_iff, leb_iff, eqb_iff, kind_iff)
        (w.fits, (w.marked, (w.numbered, (w.kinded, (fields, (proofs, ((when_iff _ _).1 (λ e. (audited e).1), v.1))))))),
  )

  shift_rules : (R at round a before number : ℕ) → (shift_fault hash s h R at round a before number ≡ 0) ↔ ShiftRules hash s h R at round a before number
  unfolding shift_fault shift_fields shift_holds
  shift_rules R at round a before number = (
    λ f.
        let (fits, (marked, (numbered, (f7, (f8, _))))) = simp (first_iff, leb_iff, eqb_iff) at f in
        let fields = simp (and-eq-true_iff, pair_rules h, field_rules s h.group) at f7 in
        record { fits = fits; marked = marked; numbered = numbered; pairs = fields.0; proof_fields_lem = fields.1; proof = simp (proof_rules s h.group) at f8 },
    λ w.
        let fields : shift_fields s h R at ≡ true = simp (and-eq-true_iff, pair_rules h, field_rules s h.group) (w.pairs, w.proof_fields_lem) in
        let holds : shift_holds hash s h R at round a before ≡ true = simp (proof_rules s h.group) w.proof in
        simp (first_iff, leb_iff, eqb_iff) (w.fits, (w.marked, (w.numbered, (fields, (holds, fault_none))))),
  )

module _ (s : List ℕ) (h : Header) (at : ℕ) where
  -- of column i of the sheet, where C ballots are counted
  abbrev Small : (C i : ℕ) → Type 0
  Small C i = (count_at s at i ≤ C) × (exponent_at s at i < h.group.q)

  column_rules : (C i : ℕ) (rest : List Test) → (first_fault (sheet_fields s h at C i ++ rest) ≡ 0) ↔ (((j : ℕ) → j < i → Small C j) × (first_fault rest ≡ 0))
  unfolding sheet_fields
  column_rules C zero rest = (λ f. (λ j l. absurd (omega arith), f), λ w. w.1)
  column_rules C (suc i) rest = (
    λ f.
        let (small, (count, (exponent, later))) = simp (append_assoc, column_rules C i, first_iff, leb_iff) at f in
        (extend (Small C) i small (count, exponent), later),
    λ w.
        let (count, exponent) = w.0 i (omega arith) in
        simp (append_assoc, column_rules C i, first_iff, leb_iff) (λ j l. w.0 j (omega arith), (count, (exponent, w.1))),
  )

  -- where the products carried are those of the counted ballots' first rows
  sheet_rules : (round : ℕ) (T : Tally) (picks : ℕ → Bool) (ballots : ℕ → Matrix) (out : ℕ) →
      ((i : ℕ) → T.b i ≡ prod_below h.K (λ k. cond (picks k) ((ballots k).b 0 i) 1)) → ((i : ℕ) → T.y i ≡ prod_below h.K (λ k. cond (picks k) ((ballots k).y 0 i) 1)) →
      (sheet_fault s h at round (sum_below h.K (λ k. cond (picks k) 1 0)) T out ≡ 0) ↔ SheetRules s h at round picks ballots out
  unfolding sheet_fault tallies
  sheet_rules round T picks ballots out eb ey = (
    λ f.
        let (fits, (marked, (numbered, (small, (f10, (out_due, _)))))) = simp (first_iff, leb_iff, eqb_iff, column_rules) at f in
        let tally = simp (all_iff, and-eq-true_iff, eqb_iff, eb, ey) at f10 in
        record {
          fits = fits;
          marked = marked;
          numbered = numbered;
          small = λ i l. (small i l).1;
          few = λ i l. (small i l).0;
          tally_b = λ i l. (tally i l).0;
          tally_y = λ i l. (tally i l).1;
          out_due = out_due;
        },
    λ w.
        let tally : tallies s h at T ≡ true = simp (all_iff, and-eq-true_iff, eqb_iff, eb, ey) (λ i l. (w.tally_b i l, w.tally_y i l)) in
        simp (first_iff, leb_iff, eqb_iff, column_rules)
        (w.fits, (w.marked, (w.numbered, (λ i l. (w.few i l, w.small i l), (tally, (w.out_due, fault_none)))))),
  )

-- ---- the records where a board has them
-- 19: where the last ballot is read, one is counted
some_rules : (s : List ℕ) (h : Header) (k : ℕ) → (some_counted s h k ≡ true) ↔ (k + 1 ≡ h.K → (j : ℕ) × (j < h.K) × (is_counted (kind s h j) ≡ true))
some_rules s h k = (
  λ t e. (some_picked h.K (λ j. is_counted (kind s h j))).0 (pos_of_ne-zero (eqb-false (counted s h) 0 (not-true (eqb (counted s h) 0) (rw (eq-eqb (k + 1) h.K e) at t)))),
  λ f.
      by_cases (eqb (k + 1) h.K)
      (λ e. let some = (some_picked h.K (λ j. is_counted (kind s h j))).1 (f (eqb-true _ _ e)) in rw (e, ne_eqb (counted s h) 0 (λ z. omega arith)))
      (λ e. rw e),
)

pub record_rules : (hash : List ℕ → List ℕ) (s : List ℕ) (h : Header) (a m k : ℕ) → (record_fault hash s h a m k ≡ 0) ↔ RecordRules hash s h a m k
unfolding record_fault
record_rules hash s h a zero k = (
  λ f.
      let w = (ballot_rules hash s h (place s h 0 k) (k + 1) _).0 f in
      record { ballot = w.0; some_counted_lem = (some_rules s h k).0 (first_holds _ _ (omega arith) w.1).0 },
  λ w. (ballot_rules hash s h (place s h 0 k) (k + 1) _).1 (w.ballot, all_hold _ _ ((some_rules s h k).1 w.some_counted_lem) fault_none),
)
record_rules hash s h a (suc m) k =
    let rules = shift_rules hash s h (h.n - suc m) (place s h (suc m) k) (suc m + 1) a (pairs_place s h m k) (k + 1) in (
      λ f c. rules.0 (rw c at f),
      λ w. by_cases (is_counted (kind s h k)) (λ c. rw c (rules.1 (w c))) (λ c. rw c),
    )

pub round_sheet_rules : (s : List ℕ) (h : Header) (m out : ℕ) → (round_sheet_fault s h m out ≡ 0) ↔ RoundSheetRules s h m out
round_sheet_rules s h m out =
    sheet_rules s h (place s h m h.K) (m + 1) _ (λ k. is_counted (kind s h k)) (matrix s h m) out (tally_b s h m h.K) (tally_y s h m h.K)
