-- The first half of the third demand: an accepted board whose matrices open says what the plain count of those rankings says.
pub mod Tally
pub mod Accepted
use Prim.Native.Nat.{ℕ, zero, suc, ◌+◌, ◌-◌, ◌≤◌, ◌<◌}
use mathlib.Core.Path.{◌≡◌, refl, sym, ap, subst, ◌∙◌}
use mathlib.Core.Bool.{Bool, true, false, cond}
use mathlib.Core.List.{List, [], ◌∷◌, ◌++◌}
use mathlib.Core.Logic.{⊎_elim}
use native.Mathlib.Nat.{eq-or-lt_of_le}
use native.Mathlib.Numerals.{add-one}
use native.Mathlib.Omega.{arith}
use lib.Dec.{eqb}
use lib.ListN.{length}
use Rattle.numbers.specs.Below.{sum_below}
use Rattle.numbers.proofs.Search.{extend}
use Rattle.rules.proofs.Leaving.{not_last}
use Rattle.rules.proofs.Lists.{length_table, length_where, table_same, votes_where}
use Rattle.jobs.proofs.Lists.{votes_sum, standing_all, first_standing, strike, ranked_processes}
use Rattle.numbers.proofs.Tests.{by_cases}
use Rattle.numbers.proofs.Sums.{sum_same, sum_constant}
use Rattle.whole.specs.ThirdDemand.{IsPlain, sheets_on, counted_rankings}
use Rattle.rules.specs.Records.{is_counted}
use Rattle.rules.specs.Header.{Header, header}
use Rattle.rules.specs.Sheet.{counts_at}
use Rattle.rules.specs.Check.{check_board, accepted, kind, counted, out_field, count_field, counts, matrix}
use Rattle.whole.specs.SecondDemand.{RoundSheetRules, standing_at, out_before, closes_at, EveryRuleHolds}
use Rattle.whole.proofs.SecondDemand.{second_demand}
use Rattle.whole.proofs.Sound.Accepted.{Marked, round_marked, GoodHeader, header_good}
use Rattle.whole.proofs.Sound.Tally.{count_is}
use Rattle.rules.specs.Count.{Standing, start, next, leaves, closes, table, first_in, votes_for, counts_of, ended, count_from, plain_count}
use Rattle.jobs.specs.Job.{remaining}
use Rattle.rules.specs.Openings.{Opening, list_at, Opens}

module _ (hash : List ℕ → List ℕ) (s : List ℕ) (rankings : ℕ → List ℕ) where
  abbrev h : Header
  h = header s

  abbrev votes : List (List ℕ)
  votes = counted_rankings s rankings

  abbrev C : ℕ
  C = counted s h

  abbrev picks : ℕ → Bool
  picks k = is_counted (kind s h k)

  -- the sheet of round m: its counts sum to C, and it is the round's one RT
  record Sheeted (m : ℕ) : Type 0 where
    summed : sum_below h.n (count_field s h m) ≡ C
    marked : Marked hash s h m

  -- the standing count before round m, and what the ballots are to open to there
  record Reached (m : ℕ) (st : Standing) : Type 0 where
    early : suc m < h.n
    sheets : st.sheets ≡ table m (counts s h)
    outs : st.gone ≡ table m (out_field s h)
    lists : (k : ℕ) → list_at s rankings m k ≡ remaining st.gone (rankings k)
    earlier : (m' : ℕ) → m' < m → Sheeted m'

  sheets_counted : (m : ℕ) (st : Standing) → Reached m st → length st.sheets ≡ m
  sheets_counted m st r = ap length r.sheets ∙ length_table m (counts s h)

  fewer : (m : ℕ) (st : Standing) → Reached m st → length st.gone < h.n
  fewer m st r = omega (arith, r.early, ap length r.outs ∙ length_table m (out_field s h))

  at_start : 2 ≤ h.n → Reached 0 start
  unfolding table list_at
  at_start l = record { early = l; sheets = refl; outs = refl; lists = λ k. sym (standing_all (rankings k)); earlier = λ m' b. absurd (omega arith) }

  -- after a sheet that does not close
  goes_on_lem : (m : ℕ) (st : Standing) → Reached m st → closes h.n st (counts s h m) C ≡ false → out_field s h m ≡ leaves h.n st (counts s h m) →
      Sheeted m → Reached (suc m) (next h.n st (counts s h m))
  unfolding list_at table
  goes_on_lem m st r c e sheet =
      record {
        early = omega (arith, r.early, not_last h.n m st _ C (sheets_counted m st r) c);
        sheets = ap (λ t. t ++ (counts s h m ∷ [])) r.sheets;
        outs = cc (r.outs, e);
        lists = λ k. simp (r.lists k, e) (strike (leaves h.n st (counts s h m)) st.gone (rankings k));
        earlier = extend Sheeted m r.earlier sheet;
      }

  module _ (rounds : ℕ) (order : List ℕ) (winner : ℕ) (w : EveryRuleHolds hash s rounds order winner) (o : Opens s rankings rounds) where
    abbrev good : GoodHeader hash s h
    good = header_good hash s w.head

    -- the sheet's counts are the plain count's
    count_right : (m due : ℕ) (st : Standing) → Reached m st → m < rounds → RoundSheetRules s h m due → (i : ℕ) → i < h.n →
        count_field s h m i ≡ votes_for h.n st.gone votes (suc i)
    count_right m due st r b sheet i l =
        count_is h.group good.orders good.generators picks
        _ _ (λ k. cond (eqb (first_in h.n st.gone (rankings k)) (suc i)) 1 0) _ _
        (λ k kl c. opening k kl c)
        (λ k _. by_cases (eqb (first_in h.n st.gone (rankings k)) (suc i)) (λ e. rw e (omega arith)) (λ e. rw e (omega arith)))
        (sheet.few i l) (sheet.tally_b i l) (sheet.tally_y i l)
        ∙ sym (votes_where h.n st.gone h.K picks rankings (suc i))
      where
        opening : (k : ℕ) → k < h.K → picks k ≡ true →
            (x : ℕ) × Opening h.group ((matrix s h m k).b 0 i) ((matrix s h m k).y 0 i) x (cond (eqb (first_in h.n st.gone (rankings k)) (suc i)) 1 0)
        opening k kl c =
            let listed = ranked_processes h.n (rankings k) (o.full k kl c) in
            rw (r.lists k, first_standing h.n st.gone (rankings k) listed, add-one) at ((o.opens m k b kl c).pairs 0 i (omega (arith, r.early)) l)

    counts_right : (m due : ℕ) (st : Standing) → Reached m st → m < rounds → RoundSheetRules s h m due → counts s h m ≡ counts_of h.n votes st.gone
    unfolding counts_at counts_of
    counts_right m due st r b sheet = table_same h.n _ _ (count_right m due st r b sheet)

    sum_right : (m due : ℕ) (st : Standing) → Reached m st → m < rounds → RoundSheetRules s h m due → sum_below h.n (count_field s h m) ≡ C
    sum_right m due st r b sheet = sum_same h.n _ _ (count_right m due st r b sheet) ∙ votes_sum h.n h.K st.gone picks rankings o.full (fewer m st r)

    all_marked : (m : ℕ) (st : Standing) → Reached m st → Sheeted m → sheets_on s (suc m) ≡ suc m
    all_marked m st r sheet =
        sum_same (suc m) _ (λ _. 1) (λ m' b. (extend Sheeted m r.earlier sheet m' b).marked) ∙ omega (arith, sum_constant (suc m) 1)

    -- the round that closes the board
    closing : (m : ℕ) → m ≡ w.last → Reached m (standing_at s m) → counts s h m ≡ counts_of h.n votes (standing_at s m).gone → Sheeted m →
        IsPlain s rounds order winner (ended h.n (standing_at s m) (counts_of h.n votes (standing_at s m).gone))
    unfolding table
    closing m last r e sheet =
        let now : rounds ≡ suc m = omega (arith, w.rounds_are) in
        let before : rounds - 1 ≡ m = omega arith in
        record {
          same_rounds = cc (now, sheets_counted m (standing_at s m) r, add-one m);
          same_order = rw last w.order_is;
          same_winner = rw (← e, last) w.winner_is;
          same_sheets = rw now (all_marked m (standing_at s m) r sheet ∙ sym (cc (sheets_counted m (standing_at s m) r, add-one m)));
          same_counts = rw (now, ← e) (ap (λ t. t ++ (counts s h m ∷ [])) (sym r.sheets));
          same_outs = rw before (sym r.outs);
          whole = w.ends;
          sums = λ m' b. (extend Sheeted m r.earlier sheet m' (rw now at b)).summed;
        }

    -- from round m on
    in_step : (fuel m : ℕ) → fuel + m ≡ h.n → m ≤ w.last → Reached m (standing_at s m) → IsPlain s rounds order winner (count_from h.n votes fuel (standing_at s m))
    unfolding count_from standing_at
    in_step zero m f l r = absurd (omega (arith, r.early))
    in_step (suc fuel) m f l r =
        let past : m < rounds = omega (arith, w.rounds_are) in
        let good_sheet = w.sheets m past in
        let same = counts_right m _ (standing_at s m) r past good_sheet in
        let sheet : Sheeted m =
        record {
          summed = sum_right m _ (standing_at s m) r past good_sheet;
          marked = round_marked hash s h (out_before s m) m _ (λ k. w.records m k past) good_sheet;
        } in
        ⊎_elim
        (λ (last : m ≡ w.last).
        let c : closes h.n (standing_at s m) (counts_of h.n votes (standing_at s m).gone) (length votes) ≡ true =
        rw (← same, length_where h.K picks rankings) (subst (λ (m : ℕ). closes_at s m ≡ true) (sym last) w.closed) in
        rw c (closing m last r same sheet))
        (λ (b : m < w.last).
        let going = w.not_before m b in
        let c : closes h.n (standing_at s m) (counts_of h.n votes (standing_at s m).gone) (length votes) ≡ false = rw (← same, length_where h.K picks rankings) going in
        rw (c, ← same)
        (in_step fuel (suc m) (omega arith) b (goes_on_lem m (standing_at s m) r going (rw going at good_sheet.out_due) sheet)))
        (eq-or-lt_of_le l)

pub sound : (hash : List ℕ → List ℕ) (s : List ℕ) (rounds : ℕ) (order : List ℕ) (winner : ℕ) (rankings : ℕ → List ℕ) →
    check_board hash s ≡ accepted rounds order winner → Opens s rankings rounds → IsPlain s rounds order winner (plain_count (header s).n (counted_rankings s rankings))
unfolding plain_count standing_at
sound hash s rounds order winner rankings e o =
    let w = ((second_demand hash).accepted_iff s rounds order winner).0 e in
    in_step hash s rankings rounds order winner w o (header s).n 0 (omega arith) (omega arith) (at_start hash s rankings (header_good hash s w.head).two)
