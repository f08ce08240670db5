-- The checker goes through the rounds that a job writes in step with the plain count.
use Prim.Native.Nat.{ℕ, zero, suc, ◌+◌, ◌-◌, ◌≤◌, ◌<◌}
use native.Mathlib.Nat.{le_of_eq, eq-or-lt_of_le, sub-zero}
use native.Mathlib.Omega.{arith}
use mathlib.Core.Path.{◌≡◌, refl, sym, subst, subst⁻¹, ◌∙◌, ap}
use mathlib.Core.Bool.{Bool, true, false, cond}
use mathlib.Core.List.{List, [], ◌∷◌, ◌++◌}
use mathlib.Core.Logic.{⊎_elim}
use lib.Dec.{eqb}
use lib.ListN.{length, get_or, length-append}
use borrow.Author.Tests.{eq-eqb}
use Rattle.numbers.specs.Below.{sum_below, concat_below}
use Rattle.group.specs.Arithmetic.{pow_mod}
use Rattle.group.specs.Elements.{Parameters}
use Rattle.rules.specs.Records.{is_counted, record_length, sheet_length}
use Rattle.rules.specs.Count.{Standing, start, next}
use Rattle.rules.specs.Header.{Header, header}
use Rattle.rules.specs.Check.{accepted, position, place, kind, counted, out_field, counts, due, round_sheet_fault, ending, check_from, matrix}
use Rattle.jobs.specs.Job.{Job, group_of, header_of, ranking_of, kind_of, counted_below, remaining, plain_result, round_at}
use Rattle.jobs.specs.Board.{job_draws, job_matrix, record_bytes, rounds_from, job_sheet}
use Rattle.rules.specs.Openings.{OpensTo, list_at}
use Rattle.whole.specs.SecondDemand.{RecordRules, RoundSheetRules}
use Rattle.numbers.proofs.Search.{extend}
use Rattle.numbers.proofs.Sums.{some_picked, sum_same}
use Rattle.whole.proofs.Rules.{record_rules, round_sheet_rules}
use Rattle.whole.proofs.Verdicts.{round_read}
use Rattle.jobs.proofs.FineJob.{Fine}
use Rattle.whole.proofs.Complete.Written.{secret_at_lem, secret}
use Rattle.numbers.proofs.Tests.{by_cases}
use Rattle.jobs.proofs.Lists.{strike}
use Rattle.rules.proofs.Orders.{orders_of_test, bit_below}
use Rattle.rules.proofs.Positions.{counted_has, place_round}
use Rattle.rules.proofs.Leaving.{In}
use Rattle.jobs.proofs.Matrices.{SameMatrix}
use Rattle.whole.proofs.Complete.BallotRecord.{ballot_matrix_lem, kind_read, ballot_kept}
use Rattle.whole.proofs.Complete.ShiftRecord.{shift_matrix, shift_kept}
use Rattle.whole.proofs.Complete.SheetRecord.{read_counts, sheet_kept}
use Rattle.rules.specs.Bytes.{Stands}
use Rattle.rules.proofs.Places.{stands_left, stands_right, stands_moved, stands_piece}
use Rattle.numbers.proofs.Blocks.{length_joined}
use Rattle.jobs.specs.Records.{matrix_of}
use Rattle.jobs.proofs.Counting.{in_once, Reached, counts_in, closes_in, leaves_in, in_rounds, leaves_still_in, plain_closed, next_reached}
use Rattle.jobs.proofs.Lengths.{length_sheet, length_record}
use Rattle.jobs.proofs.Positions.{record_at, place_is, record_same}

module _ (hash : List ℕ → List ℕ) (job : Job) where
  abbrev g : Parameters
  g = group_of hash job

  abbrev h : Header
  h = header_of hash job

  -- the records of the first k ballots
  records_length : (before : List ℕ) (a m k : ℕ) → sum_below k (λ i. length (record_bytes hash job g before a m i)) ≡ sum_below k (λ i. record_length job.n (kind_of job i) m)
  records_length before a m k = sum_same k _ _ (λ i _. length_record hash job g before a m i)

  round_length : (before : List ℕ) (a m : ℕ) → length (concat_below job.K (record_bytes hash job g before a m)) ≡ sum_below job.K (λ i. record_length job.n (kind_of job i) m)
  round_length before a m = length_joined job.K (record_bytes hash job g before a m) ∙ records_length before a m job.K

  module _ (s : List ℕ) where
    -- the matrices of round m are read as they were written, those of counted ballots
    abbrev Read : List ℕ → ℕ → Type 0
    Read gone m = (k : ℕ) → k < job.K → is_counted (kind_of job k) ≡ true → SameMatrix (job.n - m) job.n (matrix s h m k) (job_matrix job g gone m k)

    abbrev Short : List ℕ → ℕ → Type 0
    Short gone m = (k : ℕ) → k < job.K → length (remaining gone (ranking_of job k)) ≡ job.n - m

    -- a matrix opens to the list due, and its Y are powers of the job's draws
    abbrev pub Opened : (m k : ℕ) → Type 0
    Opened m k =
        OpensTo g (job.n - m) job.n (matrix s h m k) (list_at s (ranking_of job) m k)
        × ((i j : ℕ) → i < job.n - m → j < job.n → (matrix s h m k).y i j ≡ pow_mod job.p g.g1 (secret job m k i j))

    -- what round m left to the next
    pub record Shifted (gone before : List ℕ) (a m : ℕ) : Type 0 where
      pub struck : gone ≡ before ++ (a ∷ [])
      pub was_in : In before job.n a
      pub short : Short before m
      pub read : Read before m

    abbrev Prior : (gone before : List ℕ) (a m : ℕ) → Type 0
    Prior gone before a zero = gone ≡ []
    Prior gone before a (suc m) = Shifted gone before a m

    -- the board from round m on is what the writer wrote there
    pub record Reach (fuel : ℕ) (st : Standing) (m : ℕ) (before : List ℕ) (a : ℕ) : Type 0 where
      pub count : Reached job fuel st m
      pub listed : (k : ℕ) → list_at s (ranking_of job) m k ≡ remaining st.gone (ranking_of job k)
      pub prior : Prior st.gone before a m
      pub rest : Stands s (round_at job.n (kind_of job) job.K m) (rounds_from hash job g fuel st m before a)
      pub whole : length s ≡ round_at job.n (kind_of job) job.K m + length (rounds_from hash job g fuel st m before a)

    -- a ballot's record among those of its round
    piece : (before : List ℕ) (a m k : ℕ) → Stands s (round_at job.n (kind_of job) job.K m) (concat_below job.K (record_bytes hash job g before a m)) → k < job.K →
        Stands s (record_at job.n (kind_of job) job.K m k) (record_bytes hash job g before a m k)
    piece before a m k here l = stands_moved (ap (λ (x : ℕ). round_at job.n (kind_of job) job.K m + x) (records_length before a m k)) (stands_piece job.K _ here k l)

    -- so the kinds are read as they were written, one after another
    module _ (f : Fine hash job) (fuel : ℕ) (r : Reach (suc fuel) start 0 [] 0) where
      first_round_lem : Stands s (round_at job.n (kind_of job) job.K 0) (concat_below job.K (record_bytes hash job g [] 0 0))
      unfolding rounds_from
      first_round_lem = stands_left (concat_below job.K (record_bytes hash job g [] 0 0)) _ r.rest

      kinds_below : (k : ℕ) → k ≤ job.K → (j : ℕ) → j < k → kind s h j ≡ kind_of job j
      unfolding position record_bytes round_at
      kinds_below zero l = λ j b. absurd (omega arith)
      kinds_below (suc k) l =
          let below = kinds_below k (omega arith) in
          let at : place s h 0 k ≡ record_at job.n (kind_of job) job.K 0 k = place_is s h 0 k ∙ record_same job.n k (kind s h) (kind_of job) below 0 k (omega arith) in
          extend (λ (j : ℕ). kind s h j ≡ kind_of job j) k below
          (kind_read hash job k f (in_rounds job f.ranked r.count) l s (place s h 0 k) (stands_moved (sym at) (piece [] 0 0 k first_round_lem l)))

      pub kinds_read : (k : ℕ) → k < job.K → kind s h k ≡ kind_of job k
      kinds_read = kinds_below job.K (omega arith)

    module _ (f : Fine hash job) (heads : header s ≡ h) (kinds : (k : ℕ) → k < job.K → kind s h k ≡ kind_of job k) where
      place_of : (m k : ℕ) → k ≤ job.K → place s h m k ≡ record_at job.n (kind_of job) job.K m k
      place_of m k l = place_is s h m k ∙ record_same job.n job.K (kind s h) (kind_of job) kinds m k l

      -- as many ballots are counted as the job has
      all_counted : counted s h ≡ counted_below job job.K
      all_counted = sum_same job.K _ _ (λ k l. rw (kinds k l))

      counted_job : (k : ℕ) → k < job.K → is_counted (kind s h k) ≡ true → is_counted (kind_of job k) ≡ true
      counted_job k l c = rw (kinds k l) at c

      -- a record of a round
      record_kept : (gone before : List ℕ) (a m k : ℕ) → Prior gone before a m → m < (plain_result job).rounds → m + 2 ≤ job.n → k < job.K →
          Stands s (place s h m k) (record_bytes hash job g before a m k) →
          RecordRules hash s h a m k × (is_counted (kind_of job k) ≡ true → SameMatrix (job.n - m) job.n (matrix s h m k) (job_matrix job g gone m k))
      unfolding record_bytes
      record_kept gone before a zero k prior in_round early l here = (
        record {
          ballot = ballot_kept hash job k f in_round l s _ here;
          some_counted_lem = λ _. (some_picked job.K (λ j. is_counted (kind s h j))).0 (omega (arith, all_counted, f.some_counted_lem));
        },
        λ _. rw (prior, sub-zero) (ballot_matrix_lem hash job k f in_round l s _ here),
      )
      record_kept gone before a (suc m) k prior in_round early l here =
          let o = in_once job.n before (ranking_of job k) a (f.ranked k l) prior.was_in in
          let low = prior.was_in.low in
          let high = prior.was_in.high in (
            λ c.
                let c' = counted_job k l c in
                shift_kept hash job before a m k f in_round l c' (omega arith) low high o (le_of_eq (prior.short k l)) s _ _ (prior.read k l c') (rw c' at here),
            λ c.
                rw prior.struck
                (shift_matrix hash job before a m k f in_round l c (omega arith) low high o (le_of_eq (prior.short k l)) s _ _ (prior.read k l c) (rw c at here)),
          )

      -- one round
      module _ (fuel : ℕ) (st : Standing) (m : ℕ) (before : List ℕ) (a : ℕ) (r : Reach (suc fuel) st m before a) where
        abbrev C : List ℕ
        C = counts_in job st

        abbrev closing : Bool
        closing = closes_in job st

        abbrev leaving : ℕ
        leaving = leaves_in job st

        abbrev after : List ℕ
        after = rounds_from hash job g fuel (next job.n st C) (suc m) st.gone leaving

        abbrev tail : List ℕ
        tail = cond closing (job_sheet job g m 0 C) (job_sheet job g m leaving C ++ after)

        in_round : m < (plain_result job).rounds
        in_round = in_rounds job f.ranked r.count

        split : Stands s (round_at job.n (kind_of job) job.K m) (concat_below job.K (record_bytes hash job g before a m) ++ tail)
        unfolding rounds_from
        split = r.rest

        -- the sheet, and the rounds after it
        tail_stands : Stands s (record_at job.n (kind_of job) job.K m job.K) tail
        tail_stands = stands_right (concat_below job.K (record_bytes hash job g before a m)) tail (round_length before a m) split

        sheet_stands : Stands s (place s h m job.K) (job_sheet job g m (cond closing 0 leaving) C)
        sheet_stands =
            stands_moved (sym (place_of m job.K (omega arith)))
            (by_cases closing (λ e. rw e (rw e at tail_stands)) (λ e. rw e (stands_left (job_sheet job g m leaving C) after (rw e at tail_stands))))

        -- each ballot's record, where it is due
        pub record_stands : (k : ℕ) → k < job.K → Stands s (place s h m k) (record_bytes hash job g before a m k)
        record_stands k l =
            stands_moved (sym (place_of m k (omega arith)))
            (piece before a m k (stands_left (concat_below job.K (record_bytes hash job g before a m)) tail split) l)

        round_records : (k : ℕ) → k < job.K →
            RecordRules hash s h a m k × (is_counted (kind_of job k) ≡ true → SameMatrix (job.n - m) job.n (matrix s h m k) (job_matrix job g st.gone m k))
        round_records k l = record_kept st.gone before a m k r.prior in_round r.count.early l (record_stands k l)

        round_counts : counts s h m ≡ C
        round_counts = read_counts hash job st.gone m f s _ (cond closing 0 leaving) sheet_stands

        sheet_good : RoundSheetRules s h m (cond closing 0 leaving)
        sheet_good =
            sheet_kept hash job st.gone m f s _ (cond closing 0 leaving) sheet_stands (λ k. is_counted (kind s h k)) (matrix s h m) (job.n - m) (omega (arith, r.count.early))
            (λ k l. rw (kinds k l)) (λ k l. (round_records k l).1)

        out_is : due job.n (counted s h) st (counts s h m) ≡ cond closing 0 leaving
        out_is = rw (round_counts, all_counted)

        verdict_is : check_from hash s h (suc fuel) st m a ≡ cond closing (ending s h st m) (check_from hash s h fuel (next job.n st C) (suc m) leaving)
        verdict_is =
            round_read hash s h fuel st m a (λ k l. (record_rules hash s h a m k).1 (round_records k l).0)
            (subst (λ (out : ℕ). round_sheet_fault s h m out ≡ 0) (sym out_is) ((round_sheet_rules s h m _).1 sheet_good))
            ∙ rw (round_counts, all_counted)

        -- the matrices of its counted ballots open, and to the job's draws
        round_opens : (k : ℕ) → k < job.K → is_counted (kind_of job k) ≡ true → Opened m k
        unfolding matrix_of
        round_opens k a is_counted_lem =
            let same = (round_records k a).1 is_counted_lem in (
              record {
                a_row_each = ap length (r.listed k) ∙ r.count.short k a;
                pairs = λ i j b c. rw (r.listed k) (
                  secret job m k i j,
                  record {
                    x_below = (secret_at_lem hash job f m k in_round a (counted_has (kind_of job k) m is_counted_lem) i j b c).1;
                    v_below = bit_below (orders_of_test job.n job.K job.p job.q f.ordered) (eqb (get_or (remaining st.gone (ranking_of job k)) i 0) (j + 1));
                    first = same.same_b i j b c;
                    second = same.same_y i j b c;
                  },
                );
              },
              same.same_y,
            )

        sheet_long : (out : ℕ) → length (job_sheet job g m out C) ≡ sheet_length job.n
        sheet_long out = length_sheet job.q job.n job.K (kind_of job) job.draws (job_draws job m) m out C

        tail_whole : length s ≡ record_at job.n (kind_of job) job.K m job.K + length tail
        unfolding rounds_from
        tail_whole =
            let e : length s ≡ round_at job.n (kind_of job) job.K m + length (concat_below job.K (record_bytes hash job g before a m) ++ tail) = r.whole in
            omega (arith, length-append (concat_below job.K (record_bytes hash job g before a m)) tail, round_length before a m)

        -- the round that closes the board
        closed : closing ≡ true → check_from hash s h (suc fuel) st m a ≡ accepted (plain_result job).rounds (plain_result job).order (plain_result job).winner
        closed e =
            let t : length tail ≡ sheet_length job.n = rw e (sheet_long 0) in
            let over : length s ≡ place s h (suc m) 0 = omega (arith, tail_whole, place_of m job.K (omega arith), place_round s h m) in
            verdict_is ∙ rw e (rw (eq-eqb _ _ over, round_counts, plain_closed job f.ranked r.count e, r.count.sheeted))

        next_listed : closing ≡ false → (k : ℕ) → list_at s (ranking_of job) (suc m) k ≡ remaining (st.gone ++ (leaving ∷ [])) (ranking_of job k)
        unfolding list_at
        next_listed e k =
            let o : out_field s (header s) m ≡ leaving =
            subst⁻¹ (λ h. out_field s h m ≡ leaving) heads (sheet_good.out_due ∙ rw e) in
            rw (o, r.listed k) (strike leaving st.gone (ranking_of job k))

        -- a round after which others come
        opened : closing ≡ false → Reach fuel (next job.n st C) (suc m) st.gone leaving
        unfolding round_at
        opened e =
            let w : length s ≡ record_at job.n (kind_of job) job.K m job.K + length (job_sheet job g m leaving C ++ after) = rw e at tail_whole in
            record {
              count = next_reached job f.ranked r.count e;
              listed = next_listed e;
              prior = record { struck = refl; was_in = leaves_still_in job f.ranked r.count; short = r.count.short; read = λ k l. (round_records k l).1 };
              rest = stands_right (job_sheet job g m leaving C) after (sheet_long leaving) (rw e at tail_stands);
              whole = omega (arith, length-append (job_sheet job g m leaving C) after, sheet_long leaving);
            }

      -- all rounds, from round m on
      pub rounds : (fuel : ℕ) (st : Standing) (m : ℕ) (before : List ℕ) (a : ℕ) → Reach fuel st m before a →
          (check_from hash s h fuel st m a ≡ accepted (plain_result job).rounds (plain_result job).order (plain_result job).winner)
          × ((m' k : ℕ) → m ≤ m' → m' < (plain_result job).rounds → k < job.K → is_counted (kind_of job k) ≡ true → Opened m' k)
      rounds zero st m before a r = absurd (omega (arith, r.count.fuelled, r.count.early))
      rounds (suc fuel) st m before a r =
          by_cases (closing fuel st m before a r)
          (λ e. (
            closed fuel st m before a r e,
            λ m' k l b c d.
                let one : (plain_result job).rounds ≡ length st.sheets + 1 = rw (plain_closed job f.ranked r.count e) in
                let same : m ≡ m' = omega (arith, r.count.sheeted) in
                subst (λ m. Opened m k) same (round_opens fuel st m before a r k c d),
          ))
          (λ e.
          let ih = rounds fuel _ (suc m) _ _ (opened fuel st m before a r e) in (
            verdict_is fuel st m before a r ∙ rw e ih.0,
            λ m' k l b c d.
                ⊎_elim
                (λ (q : m ≡ m').
                subst (λ m. Opened m k) q (round_opens fuel st m before a r k c d))
                (λ (w : m < m'). ih.1 m' k w b c d)
                (eq-or-lt_of_le l),
          ))
