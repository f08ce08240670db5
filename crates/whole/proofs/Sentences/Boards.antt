-- The results of accepted boards: an order of different processes, counts of at most 1,000, and what a text tells of a board.
use Prim.Native.Nat.{ℕ, zero, suc, ◌-◌, ◌≤◌, ◌<◌}
use mathlib.Core.Path.{◌≡◌, refl, sym, ap, subst, ◌∙◌}
use mathlib.Core.Bool.{true}
use mathlib.Core.Logic.{⊎_elim}
use mathlib.Core.List.{List, [], ◌∷◌, ◌++◌}
use native.Mathlib.Nat.{eq-or-lt_of_le}
use native.Mathlib.Omega.{arith}
use lib.Dec.{ltb, eqb}
use lib.ListN.{length, get_or, take, get_or-eq_default}
use lib.Seq.{take_all, take-append-le}
use borrow.Author.Tests.{ltb-true, ltb-false, eqb-true}
use Rattle.numbers.proofs.Tests.{by_cases}
use Rattle.rules.specs.Count.{table, count_in, still_in, leaves, wins, Result, plain_count}
use Rattle.rules.specs.Header.{Header, header}
use Rattle.rules.specs.Sheet.{counts_at}
use Rattle.rules.specs.Check.{accepted, count_field, counts, check_board}
use Rattle.rules.specs.Openings.{Opens}
use Rattle.rules.specs.Sentences.{text}
use Rattle.rules.specs.Notice.{name_of, names_good, board_result, text_told, text_refused, text_fault, tell, text_outcome}
use Rattle.rules.proofs.Faults.{first_holds}
use Rattle.rules.proofs.Lists.{length_table, table_at}
use Rattle.rules.proofs.Positions.{few_counted}
use Rattle.whole.specs.SecondDemand.{standing_at, out_before, EveryRuleHolds}
use Rattle.whole.specs.ThirdDemand.{counted_rankings}
use Rattle.whole.specs.Sentences.{IsResult, SameNotice}
use Rattle.whole.proofs.SecondDemand.{second_demand, early}
use Rattle.whole.proofs.Sound.{sound}
use Rattle.whole.proofs.Sound.Accepted.{header_good}
use Rattle.whole.proofs.EqualCounts.{equal_counts}
use Rattle.whole.proofs.Sentences.Rounds.{told}
use Rattle.whole.proofs.Sentences.Names.{good_names, lent_same}

-- ---- the order: who went out in each round
front_table : (k m : ℕ) (f : ℕ → ℕ) → m ≤ k → take m (table k f) ≡ table m f
unfolding table
front_table zero m f l = let z : m ≡ 0 = omega arith in rw z
front_table (suc k) m f l =
    ⊎_elim (λ (e : m ≡ suc k). rw e (take_all (suc k) (table (suc k) f) (omega (arith, length_table (suc k) f))))
    (λ (b : m < suc k). take-append-le m (table k f) (f k ∷ []) (omega (arith, length_table k f)) ∙ front_table k m f (omega arith))
    (eq-or-lt_of_le l)

-- elements of at most c; past the end stands 0
get_or_small : (xs : List ℕ) (i c : ℕ) → ((i : ℕ) → i < length xs → get_or xs i 0 ≤ c) → get_or xs i 0 ≤ c
get_or_small xs i c h = by_cases (ltb i (length xs)) (λ t. h i (ltb-true i (length xs) t)) (λ t. rw (get_or-eq_default xs 0 (ltb-false i (length xs) t)) (omega arith))

module _ (s : List ℕ) where
  abbrev h : Header
  h = header s

  abbrev outs : (m : ℕ) → ℕ
  outs m = out_before s (suc m)

  gone_is : (m : ℕ) → (standing_at s m).gone ≡ table m outs
  unfolding standing_at out_before table
  gone_is zero = refl
  gone_is (suc m) = ap (λ (t : List ℕ). t ++ (leaves h.n (standing_at s m) (counts s h m) ∷ [])) (gone_is m)

  module _ (hash : List ℕ → List ℕ) (rounds : ℕ) (order : List ℕ) (winner : ℕ) (w : EveryRuleHolds hash s rounds order winner) where
    abbrev order_is : order ≡ table w.last outs
    order_is = w.order_is ∙ gone_is w.last

    some_in : (m : ℕ) → m ≤ w.last → length (standing_at s m).gone < h.n
    some_in m l = omega (arith, ap length (gone_is m) ∙ length_table m outs, early hash s m w.head (λ r b. w.not_before r (omega arith)))

    leaves_in_lem : (m : ℕ) → m ≤ w.last → still_in h.n (standing_at s m).gone (outs m) ≡ true
    unfolding out_before
    leaves_in_lem m l =
        let (d, i) = equal_counts.some_in h.n (standing_at s m) (some_in m l) in
        ((equal_counts.out_iff h.n (standing_at s m) (counts s h m) d i _).0 refl).still_in_lem

    wins_in : (m : ℕ) → m ≤ w.last → still_in h.n (standing_at s m).gone (wins h.n (standing_at s m) (counts s h m)) ≡ true
    wins_in m l =
        let (d, i) = equal_counts.some_in h.n (standing_at s m) (some_in m l) in
        ((equal_counts.wins_iff h.n (standing_at s m) (counts s h m) d i _).0 refl).still_in_lem

    leaves_order : (m : ℕ) → m < w.last → still_in h.n (take m order) (get_or order m 0) ≡ true
    leaves_order m l =
        let before : take m order ≡ (standing_at s m).gone = ap (take m) order_is ∙ front_table w.last m outs (omega arith) ∙ sym (gone_is m) in
        let out : get_or order m 0 ≡ outs m = ap (λ (t : List ℕ). get_or t m 0) order_is ∙ table_at w.last outs 0 m l in
        rw (before, out) (leaves_in_lem m (omega arith))

    pub is_result : IsResult h.n (board_result s rounds order winner)
    is_result =
        let long : length order ≡ w.last = ap length order_is ∙ length_table w.last outs in
        record {
          counted = length_table rounds (counts s h);
          outs = rw long w.rounds_are;
          leaves_in_lem = λ m l. leaves_order m (omega (arith, long, l));
          wins_in = rw (w.order_is, w.winner_is) (wins_in w.last (omega arith));
        }

    -- ---- counts
    count_small : (m i : ℕ) → m < rounds → get_or (counts s h m) i 0 ≤ 1000
    unfolding counts_at
    count_small m i l =
        get_or_small (counts s h m) i 1000 (λ i b.
        let in_n : i < h.n = rw (length_table h.n (count_field s h m)) at b in
        rw (table_at h.n (count_field s h m) 0 i in_n) (omega (arith, (w.sheets m l).few i in_n, few_counted s h h.K, (header_good hash s w.head).thousand)))

    pub counts_small : (m c : ℕ) → count_in (table rounds (counts s h)) m c ≤ 1000
    counts_small m c =
        by_cases (ltb m rounds)
        (λ t. let l = ltb-true m rounds t in rw (table_at rounds (counts s h) [] m l) (count_small m (c - 1) l))
        (λ t.
        let none : get_or (table rounds (counts s h)) m [] ≡ [] = get_or-eq_default (table rounds (counts s h)) [] {n = m} (omega (arith, ltb-false m rounds t, length_table rounds (counts s h))) in
        rw none (omega arith))

-- ---- a text that is told
names_good_lem : (n : ℕ) (lent words : List ℕ) (room : ℕ) → text_fault n lent words room ≡ 0 → names_good lent n ≡ true
unfolding text_fault
names_good_lem n lent words room e = (first_holds _ _ (omega arith) e).0

tell_told : (n : ℕ) (lent : List ℕ) (r : Result) (room long : ℕ) (words : List ℕ) → tell n lent r room ≡ text_told long words →
    (names_good lent n ≡ true) × (text n (name_of lent) r ≡ words)
unfolding tell
tell_told n lent r room long words e =
    by_cases (eqb (text_fault n lent (text n (name_of lent) r) room) 0)
    (λ t.
    let q : text_told (length (text n (name_of lent) r)) (text n (name_of lent) r) ≡ text_told long words = rw t at e in
    (names_good_lem n lent (text n (name_of lent) r) room (eqb-true _ 0 t), cc))
    (λ t.
    let q : text_refused (text_fault n lent (text n (name_of lent) r) room) 0 ≡ text_told long words = rw t at e in
    let z : ◌≡◌ {A = ℕ} 0 1 = cc in
    absurd (omega arith))

module _ (hash : List ℕ → List ℕ) where
  board_told : (s lent : List ℕ) (room long : ℕ) (words : List ℕ) (rounds : ℕ) (order : List ℕ) (winner : ℕ) → check_board hash s ≡ accepted rounds order winner →
      text_outcome hash s lent room ≡ text_told long words →
      (names_good lent (header s).n ≡ true) × (text (header s).n (name_of lent) (board_result s rounds order winner) ≡ words)
  unfolding text_outcome
  board_told s lent room long words rounds order winner a e = tell_told (header s).n lent (board_result s rounds order winner) room long words (rw (a, text_outcome) at e)

  pub boards_apart : (s s' lent lent' : List ℕ) (room room' long long' : ℕ) (words : List ℕ) (rounds rounds' : ℕ) (order order' : List ℕ) (winner winner' : ℕ) →
      check_board hash s ≡ accepted rounds order winner → check_board hash s' ≡ accepted rounds' order' winner' →
      text_outcome hash s lent room ≡ text_told long words → text_outcome hash s' lent' room' ≡ text_told long' words →
      SameNotice s s' lent lent' rounds rounds' order order' winner winner'
  boards_apart s s' lent lent' room room' long long' words rounds rounds' order order' winner winner' a a' e e' =
      let t = board_told s lent room long words rounds order winner a e in
      let t' = board_told s' lent' room' long' words rounds' order' winner' a' e' in
      let same = told (header s).n (header s').n (name_of lent) (name_of lent') (board_result s rounds order winner) (board_result s' rounds' order' winner')
      (good_names lent (header s).n t.0) (good_names lent' (header s').n t'.0)
      (is_result s hash rounds order winner (((second_demand hash).accepted_iff s rounds order winner).0 a))
      (is_result s' hash rounds' order' winner' (((second_demand hash).accepted_iff s' rounds' order' winner').0 a'))
      (t.1 ∙ sym t'.1) in
      record {
        same_lent = lent_same lent lent' (header s).n t.0 (subst (λ (n : ℕ). names_good lent' n ≡ true) (sym same.same_n) t'.0) same.same_names;
        told = same;
      }

  pub board_plain : (s : List ℕ) (rounds : ℕ) (order : List ℕ) (winner : ℕ) (rankings : ℕ → List ℕ) →
      check_board hash s ≡ accepted rounds order winner → Opens s rankings rounds →
      board_result s rounds order winner ≡ plain_count (header s).n (counted_rankings s rankings)
  board_plain s rounds order winner rankings a o =
      let p = sound hash s rounds order winner rankings a o in
      λ i. record { rounds = p.same_rounds i; counts = p.same_counts i; order = p.same_order i; winner = p.same_winner i }
