-- The text of an accepted board is at most 1,454 bytes long.
use Prim.Native.Nat.{ℕ, zero, suc, ◌+◌, ◌*◌, ◌-◌, ◌/◌, ◌%◌, ◌≤◌, ◌<◌}
use mathlib.Core.Path.{◌≡◌, refl, sym, ap, ◌∙◌}
use mathlib.Core.Bool.{Bool, true, false, cond, not, or-true, or-false}
use mathlib.Core.List.{List, [], ◌∷◌, ◌++◌}
use native.Mathlib.Nat.{mul-one, mod-lt, div-add-mod'}
use native.Mathlib.Numerals.{add-one}
use native.Mathlib.Omega.{arith}
use lib.Dec.{ltb, eqb}
use lib.ListN.{length, get_or, take, length-append}
use lib.Seq.{take-suc}
use borrow.Author.Tests.{ltb-true, ltb-false, eqb-true, eqb-false, eq-eqb, ne_eqb}
use Rattle.numbers.specs.Below.{sum_below, concat_below}
use Rattle.numbers.proofs.Sums.{sum_same, sum_constant, sum_one_out, sum_within}
use Rattle.numbers.proofs.Tests.{by_cases}
use Rattle.rules.specs.Count.{member, table_where, count_in, still_in, Result}
use Rattle.rules.specs.Header.{header}
use Rattle.rules.specs.Check.{accepted, check_board}
use Rattle.rules.specs.Sentences.{bytes, decimal, joined, opening, count_text, count_texts, ending, is_last, who_in, line, text}
use Rattle.rules.specs.Notice.{name_of, names_good, board_result}
use Rattle.rules.proofs.Decimals.{one_digit, one_more}
use Rattle.rules.proofs.Lines.{opening_long, count_long, ending_long}
use Rattle.rules.proofs.Leaving.{in_of}
use Rattle.rules.proofs.Lists.{length_where, member_append}
use Rattle.whole.specs.Sentences.{GoodNames, IsResult}
use Rattle.whole.proofs.SecondDemand.{second_demand, early}
use Rattle.whole.proofs.Sound.Accepted.{header_good}
use Rattle.whole.proofs.Sentences.Rounds.{who_in_lem}
use Rattle.whole.proofs.Sentences.Names.{good_names}
use Rattle.whole.proofs.Sentences.Boards.{is_result, counts_small}

-- ---- digits: numbers below b have at most k
abbrev Digits : (k b : ℕ) → Type 0
Digits k b = (x : ℕ) → x < b → length (decimal x) ≤ k

one : Digits 1 10
one x l = rw (one_digit x l) (omega arith)

more : (k b : ℕ) → Digits k b → Digits (k + 1) (b * 10)
more k b d x l =
    by_cases (ltb x 10) (λ t. omega (arith, one x (ltb-true x 10 t)))
    (λ t.
    let whole = div-add-mod' x 10 in
    let rest : x % 10 < 10 = mod-lt x (omega arith) in
    let long = ap length (one_more (x / 10) (x % 10) (omega (arith, ltb-false x 10 t)) rest) ∙ length-append (decimal (x / 10)) ((48 + x % 10) ∷ []) in
    rw (← whole) (omega (arith, long, d (x / 10) (omega arith))))

four : Digits 4 10000
four = more 3 1000 (more 2 100 (more 1 10 one))

-- ---- the parts of a line
opening_nine : (m : ℕ) → m < 9 → length (opening m) ≡ 9
opening_nine m l = opening_long m ∙ rw (one_digit (m + 1) (omega arith)) refl

count_most : (name : List ℕ) (count : ℕ) → length name ≤ 20 → count ≤ 1000 → length (count_text name count) ≤ 32
count_most name count h l = omega (arith, count_long name count, four count (omega arith))

ending_most : (last : Bool) (name : List ℕ) → length name ≤ 20 → length (ending last name) ≤ 29 + cond last 0 2
ending_most true name h = omega (arith, ending_long true name)
ending_most false name h = omega (arith, ending_long false name)

-- texts of at most 32 bytes each, with commas between them
abbrev Short : List (List ℕ) → Type 0
Short [] = Unit
Short (x ∷ xs) = (length x ≤ 32) × Short xs

short_append : (xs ys : List (List ℕ)) → Short xs → Short ys → Short (xs ++ ys)
short_append [] ys p q = q
short_append (x ∷ xs) ys p q = (p.0, short_append xs ys p.1 q)

short_where : (n : ℕ) (p : ℕ → Bool) (f : ℕ → List ℕ) → ((i : ℕ) → i < n → length (f i) ≤ 32) → Short (table_where n p f)
unfolding table_where
short_where zero p f h = record {}
short_where (suc n) p f h =
    short_append (table_where n p f) (cond (p n) (f n ∷ []) []) (short_where n p f (λ i l. h i (omega arith)))
    (by_cases (p n) (λ t. rw t (h n (omega arith), record {})) (λ t. rw t (record {})))

joined_long : (xs : List (List ℕ)) → Short xs → length (joined (bytes ", ") xs) ≤ 34 * length xs - 2
unfolding joined bytes
joined_long [] w = omega arith
joined_long (x ∷ []) w = omega (arith, w.0)
joined_long (x ∷ y ∷ xs) w = simp length-append (omega (arith, w.0, joined_long (y ∷ xs) w.1))

-- ---- how many are still in: one goes out in each round
abbrev is_in : (gone : List ℕ) (i : ℕ) → ℕ
is_in gone i = cond (not (member (suc i) gone)) 1 0

all_in : (n : ℕ) → sum_below n (is_in []) ≡ n
unfolding member
all_in n = sum_constant n 1 ∙ mul-one n

-- process c goes out
module _ (gone : List ℕ) (c i : ℕ) (low : 1 ≤ c) where
  in_after : is_in (gone ++ (c ∷ [])) i ≡ cond (eqb i (c - 1)) 0 (is_in gone i)
  unfolding member
  in_after =
      rw (member_append (suc i) gone (c ∷ []))
      (by_cases (eqb i (c - 1))
      (λ e. rw (e, eq-eqb (suc i) c (omega (arith, eqb-true i (c - 1) e)), or-true))
      (λ e. rw (e, ne_eqb (suc i) c (λ q. eqb-false i (c - 1) e (omega arith)), or-false)))

  in_before : not (member c gone) ≡ true → is_in gone i ≡ cond (eqb i (c - 1)) 1 (is_in gone i)
  in_before h = by_cases (eqb i (c - 1)) (λ e. let q : suc i ≡ c = omega (arith, eqb-true i (c - 1) e) in rw (e, q, h)) (λ e. rw e)

one_out : (n : ℕ) (gone : List ℕ) (c : ℕ) → still_in n gone c ≡ true → sum_below n (is_in (gone ++ (c ∷ []))) + 1 ≡ sum_below n (is_in gone)
one_out n gone c h =
    let o = in_of n gone c h in
    let after = sum_same n (is_in (gone ++ (c ∷ []))) (λ i. cond (eqb i (c - 1)) 0 (is_in gone i)) (λ i _. in_after gone c i o.low) in
    let before = sum_same n (is_in gone) (λ i. cond (eqb i (c - 1)) 1 (is_in gone i)) (λ i _. in_before gone c i o.low (rw o.still)) in
    omega (arith, after, before, sum_one_out n (c - 1) 1 (is_in gone) (omega (arith, o.low, o.high)))

still_in_lem : (n : ℕ) (r : Result) → IsResult n r → (m : ℕ) → m ≤ length r.order → sum_below n (is_in (take m r.order)) + m ≡ n
still_in_lem n r w zero l = omega (arith, all_in n)
still_in_lem n r w (suc m) l =
    let out = one_out n (take m r.order) (get_or r.order m 0) (w.leaves_in_lem m l) in
    rw (take-suc r.order m 0 l) (omega (arith, still_in_lem n r w m (omega arith), out))

-- ---- the text of a result of at most 8 processes: at most 38 + 34 * k bytes in a line with k still in, two less in the last
abbrev most : (m : ℕ) → ℕ
most m = 38 + 34 * (8 - m)

module _ (n : ℕ) (names : ℕ → List ℕ) (r : Result) (g : GoodNames n names) (w : IsResult n r) (small : (m c : ℕ) → count_in r.counts m c ≤ 1000) (eight : n ≤ 8)
    (few : r.rounds < n) where
  counts_long : (m : ℕ) → m < r.rounds → length (count_texts names n (take m r.order) (get_or r.counts m [])) ≤ 34 * (n - m) - 2
  counts_long m l =
      let picks : ℕ → Bool = λ i. not (member (suc i) (take m r.order)) in
      let texts : ℕ → List ℕ = λ i. count_text (names i) (count_in r.counts m (suc i)) in
      let long : length (table_where n picks texts) ≡ n - m = omega (arith, length_where n picks texts, still_in_lem n r w m (omega (arith, w.outs))) in
      rw (← long) (joined_long (table_where n picks texts) (short_where n picks texts (λ i b. count_most (names i) _ (g.few i b) (small m (suc i)))))

  line_long : (m : ℕ) → m < r.rounds → length (line n names r m) + 2 ≤ most m + cond (is_last r m) 0 2
  unfolding line
  line_long m l =
      let o = opening m in
      let c = count_texts names n (take m r.order) (get_or r.counts m []) in
      let e = ending (is_last r m) (names (who_in r m - 1)) in
      let last = ending_most (is_last r m) (names (who_in r m - 1)) (g.few _ (omega (arith, who_in_lem n r w m l))) in
      omega (arith, length-append (o ++ c) e, length-append o c, opening_nine m (omega arith), counts_long m l, last)

  -- the lines before the last
  earlier_long : (k : ℕ) → k < r.rounds → length (concat_below k (line n names r)) ≤ sum_below k most
  unfolding concat_below sum_below
  earlier_long zero l = omega arith
  earlier_long (suc k) l =
      let e : is_last r k ≡ false = ne_eqb (k + 1) r.rounds (λ q. omega arith) in
      omega (arith, length-append (concat_below k (line n names r)) (line n names r k), earlier_long k (omega arith), rw e at (line_long k (omega arith)))

  text_long : length (text n names r) ≤ 1454
  unfolding text concat_below sum_below
  text_long =
      let k = length r.order in
      let last : k < r.rounds = omega (arith, w.outs) in
      let e : is_last r k ≡ true = eq-eqb (k + 1) r.rounds (sym w.outs) in
      let all = ap (λ (j : ℕ). length (concat_below j (line n names r))) (w.outs ∙ add-one k) ∙ length-append (concat_below k (line n names r)) (line n names r k) in
      omega (arith, all, earlier_long k last, rw e at (line_long k last), sum_within 7 k most (omega arith))

pub board_enough : (hash : List ℕ → List ℕ) (s lent : List ℕ) (rounds : ℕ) (order : List ℕ) (winner : ℕ) → check_board hash s ≡ accepted rounds order winner →
    names_good lent (header s).n ≡ true → length (text (header s).n (name_of lent) (board_result s rounds order winner)) ≤ 1454
board_enough hash s lent rounds order winner a names =
    let w = ((second_demand hash).accepted_iff s rounds order winner).0 a in
    text_long (header s).n (name_of lent) (board_result s rounds order winner) (good_names lent (header s).n names) (is_result s hash rounds order winner w)
    (counts_small s hash rounds order winner w) (header_good hash s w.head).eight
    (omega (arith, w.rounds_are, early hash s w.last w.head w.not_before))
