-- The rounds of a board in step with the plain count: the board is its header and then one round after another, each told by the order of
-- going out; each process that goes out was still in, and every ranking has lost one more.
use Prim.Native.Nat.{ℕ, zero, suc, ◌+◌, ◌-◌, ◌≤◌, ◌<◌}
use mathlib.Core.Path.{◌≡◌, refl, sym, ap, ◌∙◌, subst}
use mathlib.Core.Bool.{Bool, true, false}
use mathlib.Core.List.{List, [], ◌∷◌, ◌++◌, append_assoc, append-nil}
use native.Mathlib.Nat.{not-suc-le-zero, le_of_suc-le-suc}
use native.Mathlib.Omega.{arith}
use lib.ListN.{length, get_or, take, replicate, length-append}
use lib.Seq.{take_at, get_or_at}
use Rattle.numbers.specs.Below.{concat_below}
use Rattle.numbers.proofs.Tests.{by_cases}
use Rattle.group.specs.Elements.{Parameters}
use Rattle.rules.specs.Answers.{with_zeros}
use Rattle.rules.specs.Count.{Standing, Result, start, next, leaves, closes, is_ranking, counts_of, count_from, plain_count}
use Rattle.jobs.specs.Job.{Job, ranking_of, counted_rankings, plain_result, remaining, row_of}
use Rattle.jobs.specs.Board.{record_bytes, rounds_from, job_sheet}
use Rattle.rules.proofs.Leaving.{In, rounds_over}
use Rattle.boards.specs.Parts.{records_of, round_bytes}
use Rattle.jobs.proofs.Counting.{counts_in, closes_in, leaves_in, Reached, first_reached, next_reached, plain_closed, leaves_still_in, place_in}

-- the order of going out only grows
prefix : (n : ℕ) (rankings : List (List ℕ)) (fuel : ℕ) (st : Standing) → (rest : List ℕ) × ((count_from n rankings fuel st).order ≡ st.gone ++ rest)
unfolding count_from
prefix n rankings zero st = ([], sym (append-nil st.gone))
prefix n rankings (suc fuel) st =
    let counts = counts_of n rankings st.gone in
    by_cases (closes n st counts (length rankings))
    (λ e. ([], rw e (sym (append-nil st.gone))))
    (λ e.
    let w = prefix n rankings fuel (next n st counts) in
    (leaves n st counts ∷ w.0, rw e (w.1 ∙ append_assoc st.gone (leaves n st counts ∷ []) w.0)))

past_end : (l : List ℕ) (n : ℕ) → length l ≤ n → ◌≡◌ {A = ℕ} (get_or l n 0) 0
past_end [] n h = refl
past_end (x ∷ l) zero h = absurd (not-suc-le-zero h)
past_end (x ∷ l) (suc n) h = past_end l n (le_of_suc-le-suc h)

zeros_past : (l : List ℕ) (d n : ℕ) → length l ≡ n → ◌≡◌ {A = ℕ} (get_or (l ++ replicate d 0) n 0) 0
zeros_past l zero n e = rw append-nil (past_end l n (omega arith))
zeros_past l (suc d) n e = get_or_at l 0 (replicate d 0) 0 n e

module _ (hash : List ℕ → List ℕ) (job : Job) (g : Parameters) (ranked : (k : ℕ) → k < job.K → is_ranking job.n (ranking_of job k) ≡ true) where
  abbrev R : Result
  R = plain_result job

  abbrev o : List ℕ
  o = with_zeros R.order

  -- what the round before left
  abbrev Prior : (gone before : List ℕ) (a m : ℕ) → Type 0
  Prior gone before a zero = (before ≡ []) × (a ≡ 0)
  Prior gone before a (suc m) = gone ≡ before ++ (a ∷ [])

  -- round j is reached
  pub record At (j : ℕ) : Type 0 where
    pub st : Standing
    pub before : List ℕ
    pub a : ℕ
    pub count : Reached job (suc (job.n - suc j)) st j
    pub prior : Prior st.gone before a j
    pub board : rounds_from hash job g job.n start 0 [] 0 ≡ concat_below j (round_bytes hash job g o) ++ rounds_from hash job g (suc (job.n - suc j)) st j before a

  module _ (j : ℕ) (r : At j) where
    -- those gone out are the first of the order
    split : (rest : List ℕ) × (o ≡ r.st.gone ++ rest)
    unfolding with_zeros
    split =
        let w = prefix job.n (counted_rankings job) (suc (job.n - suc j)) r.st in
        let e : R.order ≡ r.st.gone ++ w.0 = sym (ap (λ (x : Result). x.order) r.count.plain) ∙ w.1 in
        (w.0 ++ replicate (8 - length R.order) 0, rw e (append_assoc r.st.gone w.0 _))

    pub gone_first : take j o ≡ r.st.gone
    gone_first = rw split.1 (take_at r.st.gone split.0 j r.count.out)

    abbrev closing : Bool
    closing = closes_in job r.st

    abbrev leaving : ℕ
    leaving = leaves_in job r.st

    -- the records of the round
    records : concat_below job.K (record_bytes hash job g r.before r.a j) ≡ records_of hash job g o j
    unfolding records_of
    records = go j r.count.out r.prior gone_first
      where
        go : (m : ℕ) → length r.st.gone ≡ m → Prior r.st.gone r.before r.a m → take m o ≡ r.st.gone →
            concat_below job.K (record_bytes hash job g r.before r.a m) ≡ records_of hash job g o m
        go zero e p t = rw (p.0, p.1)
        go (suc m) e p t =
            let n : length r.before ≡ m = omega (arith, ap length p, length-append r.before (r.a ∷ [])) in
            let s : o ≡ r.before ++ (r.a ∷ split.0) = split.1 ∙ ap (λ (x : List ℕ). x ++ split.0) p ∙ append_assoc r.before (r.a ∷ []) split.0 in
            let x : take m o ≡ r.before = rw s (take_at r.before (r.a ∷ split.0) m n) in
            let y : get_or o m 0 ≡ r.a = rw s (get_or_at r.before r.a split.0 0 m n) in
            rw (x, y)

    -- what the sheet names as out
    out_closing : closing ≡ true → get_or o j 0 ≡ 0
    unfolding with_zeros
    out_closing e = rw (plain_closed job ranked r.count e) (zeros_past r.st.gone (8 - length r.st.gone) j r.count.out)

    module _ (e : closing ≡ false) where
      next_count : Reached job (job.n - suc j) (next job.n r.st (counts_in job r.st)) (suc j)
      next_count = next_reached job ranked r.count e

      out_going : (get_or o j 0 ≡ leaving) × (take (suc j) o ≡ r.st.gone ++ (leaving ∷ []))
      unfolding with_zeros
      out_going =
          let w = prefix job.n (counted_rankings job) (job.n - suc j) (next job.n r.st (counts_in job r.st)) in
          let eo : R.order ≡ (r.st.gone ++ (leaving ∷ [])) ++ w.0 = sym (ap (λ (x : Result). x.order) next_count.plain) ∙ w.1 in
          let zeros : List ℕ = replicate (8 - length R.order) 0 in
          let s : o ≡ (r.st.gone ++ (leaving ∷ [])) ++ (w.0 ++ zeros) = ap (λ (x : List ℕ). x ++ zeros) eo ∙ append_assoc (r.st.gone ++ (leaving ∷ [])) w.0 zeros in
          let s' : o ≡ r.st.gone ++ (leaving ∷ (w.0 ++ zeros)) = s ∙ append_assoc r.st.gone (leaving ∷ []) (w.0 ++ zeros) in
          (rw s' (get_or_at r.st.gone leaving (w.0 ++ zeros) 0 j r.count.out), rw s (take_at (r.st.gone ++ (leaving ∷ [])) (w.0 ++ zeros) (suc j) next_count.out))

      -- the round whole, and what comes after it
      after : rounds_from hash job g (suc (job.n - suc j)) r.st j r.before r.a ≡
          round_bytes hash job g o j ++ rounds_from hash job g (job.n - suc j) (next job.n r.st (counts_in job r.st)) (suc j) r.st.gone leaving
      unfolding rounds_from round_bytes
      after = rw (e, records, gone_first, out_going.0) (sym (append_assoc (records_of hash job g o j) (job_sheet job g j leaving (counts_in job r.st)) _))

      onward : At (suc j)
      unfolding concat_below
      onward =
          let fuel : job.n - suc j ≡ suc (job.n - suc (suc j)) = omega (arith, next_count.early) in
          record {
            st = next job.n r.st (counts_in job r.st);
            before = r.st.gone;
            a = leaving;
            count = rw fuel at next_count;
            prior = refl;
            board = r.board ∙ rw (after, fuel, append_assoc);
          }

    last : closing ≡ true → rounds_from hash job g (suc (job.n - suc j)) r.st j r.before r.a ≡ round_bytes hash job g o j
    unfolding rounds_from round_bytes
    last e = rw (e, records, gone_first, out_closing e)

    is_last_lem : j + 1 ≡ R.rounds → closing ≡ true
    is_last_lem h =
        by_cases closing (λ e. e)
        (λ e.
        let n = next_count e in
        absurd (omega (arith, rw (n.plain, n.sheeted) at (rounds_over job.n (counted_rankings job) (job.n - suc j) (next job.n r.st (counts_in job r.st))))))

    not_last : j + 1 < R.rounds → closing ≡ false
    not_last h = by_cases closing (λ e. absurd (omega (arith, ap (λ (x : Result). x.rounds) (plain_closed job ranked r.count e), r.count.sheeted))) (λ e. e)

  module _ (many : 2 ≤ job.n) where
    some : 0 < R.rounds
    unfolding plain_count
    some = rounds_over job.n (counted_rankings job) job.n start

    walk : (j : ℕ) → j < R.rounds → At j
    unfolding concat_below
    walk zero h =
        let fuel : job.n ≡ suc (job.n - 1) = omega arith in
        record { st = start; before = []; a = 0; count = subst (λ (n : ℕ). Reached job n start 0) fuel (first_reached job ranked many); prior = (refl, refl); board = ap (λ (n : ℕ). rounds_from hash job g n start 0 [] 0) fuel }
    walk (suc j) h = let r = walk j (omega arith) in onward j r (not_last j r (omega arith))

    -- the rounds of the board, one after another
    pub rounds_are : rounds_from hash job g job.n start 0 [] 0 ≡ concat_below R.rounds (round_bytes hash job g o)
    unfolding concat_below
    rounds_are =
        let j = R.rounds - 1 in
        let r = walk j (omega (arith, some)) in
        let n : R.rounds ≡ suc j = omega (arith, some) in
        r.board ∙ ap (λ (x : List ℕ). concat_below j (round_bytes hash job g o) ++ x) (last j r (is_last_lem j r (omega (arith, some)))) ∙ ap (λ (k : ℕ). concat_below k (round_bytes hash job g o)) (sym n)

    pub few_rounds : R.rounds + 1 ≤ job.n
    few_rounds = let r = walk (R.rounds - 1) (omega (arith, some)) in omega (arith, r.count.early, some)

    -- the process that goes out in a round was still in
    pub goes_out : (j : ℕ) → suc j < R.rounds → (take (suc j) o ≡ take j o ++ (get_or o j 0 ∷ [])) × In (take j o) job.n (get_or o j 0)
    goes_out j h =
        let r = walk j (omega arith) in
        let w = out_going j r (not_last j r (omega arith)) in
        (w.1 ∙ rw (w.0, gone_first j r), rw (w.0, gone_first j r) (leaves_still_in job ranked r.count))

    -- so many are left on each ranking
    pub left : (j : ℕ) → j < R.rounds → (k : ℕ) → k < job.K → length (remaining (take j o) (ranking_of job k)) ≡ job.n - j
    left j h k l = let r = walk j h in rw (gone_first j r) (r.count.short k l)

    pub struck_below : (j : ℕ) → suc j < R.rounds → (k : ℕ) → k < job.K → row_of (get_or o j 0) (remaining (take j o) (ranking_of job k)) < job.n - j
    struck_below j h k l = rw (left j (omega arith) k l) at (place_in job.n (take j o) (ranking_of job k) (get_or o j 0) (ranked k l) (goes_out j h).1)
