-- The text, line after line, tells the names, the counts, the order and the winner.
use Prim.Native.Nat.{ℕ, zero, suc, ◌+◌, ◌-◌, ◌≤◌, ◌<◌}
use mathlib.Core.Path.{◌≡◌, refl, sym, ap, ap₂, subst, ◌∙◌}
use mathlib.Core.Bool.{Bool, true, false, cond, not}
use mathlib.Core.Logic.{⊎_elim}
use mathlib.Core.List.{List, [], ◌∷◌, ◌++◌, map, map-append, append-nil, append_assoc, head-eq_of_cons-eq}
use native.Mathlib.Nat.{mul-one, add-zero, zero-add, eq-or-lt_of_le}
use native.Mathlib.Numerals.{add-one}
use native.Mathlib.Omega.{arith}
use lib.ListN.{length, get_or, take}
use lib.Seq.{take_all, take-suc}
use borrow.Author.Tests.{eqb-true, eqb-false}
use Rattle.numbers.specs.Below.{sum_below, concat_below}
use Rattle.numbers.proofs.Search.{extend}
use Rattle.numbers.proofs.Sums.{sum_same, sum_constant}
use Rattle.numbers.proofs.Tests.{by_cases}
use Rattle.rules.specs.Count.{member, table_where, count_in, still_in, Result}
use Rattle.rules.specs.Sentences.{bytes, opening, count_texts, is_last, who_in, line, text}
use Rattle.rules.specs.Notice.{is_letter}
use Rattle.rules.proofs.Leaving.{in_of}
use Rattle.rules.proofs.Lists.{split, length_where}
use Rattle.whole.specs.Sentences.{GoodNames, IsResult, SameTold}
use Rattle.whole.proofs.Sentences.Decimals.{Each, each_of}
use Rattle.whole.proofs.Sentences.Lines.{Item, item, Named, line_of, line_told}

-- ---- tables of what a test picks
module _ {ℓ} {A : Type ℓ} where
  where_told : (n : ℕ) (p : ℕ → Bool) (f g : ℕ → A) → table_where n p f ≡ table_where n p g → (i : ℕ) → i < n → p i ≡ true → f i ≡ g i
  unfolding table_where
  where_told zero p f g e i l = absurd (omega arith)
  where_told (suc n) p f g e i l =
      let w = split (sum_below n (λ i. cond (p i) 1 0)) (table_where n p f) (table_where n p g) (cond (p n) (f n ∷ []) []) (cond (p n) (g n ∷ []) []) (length_where n p f) (length_where n p g) e in
      extend (λ (i : ℕ). p i ≡ true → f i ≡ g i) n (where_told n p f g w.0) (λ t. head-eq_of_cons-eq (rw t at w.1)) i l

  where_all : (n : ℕ) (p : ℕ → Bool) (f : ℕ → A) → ((i : ℕ) → p i ≡ true) → length (table_where n p f) ≡ n
  where_all n p f h = length_where n p f ∙ sum_same n _ (λ _. 1) (λ i l. rw (h i)) ∙ sum_constant n 1 ∙ mul-one n

  where_map {κ} : {B : Type κ} (n : ℕ) (p : ℕ → Bool) (f : ℕ → A) (g : A → B) → map g (table_where n p f) ≡ table_where n p (λ i. g (f i))
  unfolding table_where
  where_map zero p f g = refl
  where_map (suc n) p f g =
      map-append g (table_where n p f) (cond (p n) (f n ∷ []) []) ∙ by_cases (p n) (λ t. rw (t, where_map n p f g)) (λ t. rw (t, where_map n p f g))

named_append : (a b : List Item) → Named a → Named b → Named (a ++ b)
named_append [] b p q = q
named_append (x ∷ a) b p q = (p.0, named_append a b p.1 q)

named_where : (n : ℕ) (p : ℕ → Bool) (f : ℕ → Item) → ((i : ℕ) → i < n → Each is_letter (f i).0) → Named (table_where n p f)
unfolding table_where
named_where zero p f h = record {}
named_where (suc n) p f h =
    named_append (table_where n p f) (cond (p n) (f n ∷ []) []) (named_where n p f (λ i l. h i (omega arith)))
    (by_cases (p n) (λ t. rw t (h n (omega arith), record {})) (λ t. rw t (record {})))

-- ---- the line of a round
regroup : (o c s w e f : List ℕ) → o ++ c ++ (s ++ w ++ e ++ f) ≡ o ++ (c ++ (s ++ (w ++ (e ++ f))))
regroup o c s w e f = simp append_assoc

module _ (n : ℕ) (names : ℕ → List ℕ) (r : Result) where
  abbrev picks : (m i : ℕ) → Bool
  picks m i = not (member (suc i) (take m r.order))

  -- process i + 1 with its count
  abbrev counted : (m i : ℕ) → Item
  counted m i = (names i, count_in r.counts m (suc i))

  abbrev items : (m : ℕ) → List Item
  items m = table_where n (picks m) (counted m)

  line_is : (m : ℕ) → line n names r m ≡ line_of m (items m) (names (who_in r m - 1)) (is_last r m)
  unfolding line
  line_is m =
      rw (where_map n (picks m) (counted m) item)
      (regroup (opening m) (count_texts names n (take m r.order) (get_or r.counts m [])) (bytes "; ") (names (who_in r m - 1))
      (cond (is_last r m) (bytes " wins.") (bytes " leaves.")) (10 ∷ []))

-- ---- the lines from round m on
abbrev lines_from : (f : ℕ → List ℕ) (m k : ℕ) → List ℕ
lines_from f m zero = []
lines_from f m (suc k) = f m ++ lines_from f (suc m) k

lines_from_lem : (f : ℕ → List ℕ) (m k : ℕ) → concat_below (m + k) f ≡ concat_below m f ++ lines_from f m k
unfolding concat_below
lines_from_lem f m zero = rw (add-zero, append-nil)
lines_from_lem f m (suc k) =
    let next : m + suc k ≡ suc m + k = omega arith in
    rw next (lines_from_lem f (suc m) k ∙ append_assoc (concat_below m f) (f m) (lines_from f (suc m) k))

text_is : (n : ℕ) (names : ℕ → List ℕ) (r : Result) → text n names r ≡ lines_from (line n names r) 0 r.rounds
unfolding text concat_below
text_is n names r = ap (λ (k : ℕ). concat_below k (line n names r)) (sym (zero-add r.rounds)) ∙ lines_from_lem (line n names r) 0 r.rounds

-- ---- a result with names
-- equal lists of those still in, with their counts
counts_told : (n m : ℕ) (gone : List ℕ) (names names' : ℕ → List ℕ) (S S' : List (List ℕ)) →
    table_where {A = Item} n (λ i. not (member (suc i) gone)) (λ i. (names i, count_in S m (suc i)))
    ≡ table_where {A = Item} n (λ i. not (member (suc i) gone)) (λ i. (names' i, count_in S' m (suc i))) →
    (c : ℕ) → still_in n gone c ≡ true → count_in S m c ≡ count_in S' m c
counts_told n m gone names names' S S' e c h =
    let v = in_of n gone c h in
    let s : suc (c - 1) ≡ c = omega (arith, v.low) in
    subst (λ (k : ℕ). count_in S m k ≡ count_in S' m k) s (ap (λ (x : Item). x.1) (where_told n _ _ _ e (c - 1) (omega (arith, v.low, v.high)) (rw (s, v.still))))

-- who leaves or wins is one of the n
pub who_in_lem : (n : ℕ) (r : Result) → IsResult n r → (m : ℕ) → m < r.rounds → (1 ≤ who_in r m) × (who_in r m ≤ n)
who_in_lem n r w m l =
    by_cases (is_last r m)
    (λ t. rw t (let v = in_of n r.order r.winner w.wins_in in (v.low, v.high)))
    (λ t. rw t (let v = in_of n (take m r.order) (get_or r.order m 0) (w.leaves_in_lem m (omega (arith, w.outs, eqb-false (m + 1) r.rounds t))) in (v.low, v.high)))

module _ (n : ℕ) (names : ℕ → List ℕ) (r : Result) (g : GoodNames n names) (w : IsResult n r) where
  letters : (i : ℕ) → i < n → Each is_letter (names i)
  letters i l = each_of is_letter (names i) (λ d b. g.letters i d l b)

  lettered : (m : ℕ) → Named (items n names r m)
  lettered m = named_where n (picks n names r m) (counted n names r m) letters

  who_letters : (m : ℕ) → m < r.rounds → Each is_letter (names (who_in r m - 1))
  who_letters m l = let v = who_in_lem n r w m l in letters _ (omega arith)

-- ---- two of them
parts_told : (n n' : ℕ) (names names' : ℕ → List ℕ) (r r' : Result) → GoodNames n names → GoodNames n' names' → IsResult n r → IsResult n' r' →
    (m : ℕ) (u v : List ℕ) → m < r.rounds → m < r'.rounds → line n names r m ++ u ≡ line n' names' r' m ++ v →
    (items n names r m ≡ items n' names' r' m) × (names (who_in r m - 1) ≡ names' (who_in r' m - 1)) × (is_last r m ≡ is_last r' m) × (u ≡ v)
parts_told n n' names names' r r' g g' w w' m u v l l' e =
    line_told m _ _ _ _ (is_last r m) (is_last r' m) u v (lettered n names r g w m) (lettered n' names' r' g' w' m)
    (who_letters n names r g w m l) (who_letters n' names' r' g' w' m l')
    (sym (ap (λ (t : List ℕ). t ++ u) (line_is n names r m)) ∙ e ∙ ap (λ (t : List ℕ). t ++ v) (line_is n' names' r' m))

-- of a process still in
abbrev SameCount : (n : ℕ) (r r' : Result) (c m : ℕ) → Type 0
SameCount n r r' c m = still_in n (take m r.order) c ≡ true → count_in r.counts m c ≡ count_in r'.counts m c

-- what the line of round m tells, with what follows it
record LineTold (n : ℕ) (names names' : ℕ → List ℕ) (r r' : Result) (m : ℕ) (u v : List ℕ) : Type 0 where
  same_counts : (c : ℕ) → SameCount n r r' c m
  same_last : is_last r m ≡ is_last r' m
  same_who : who_in r m ≡ who_in r' m
  same_rest : u ≡ v

-- what the lines from round m on tell
record RestTold (n : ℕ) (r r' : Result) (m : ℕ) : Type 0 where
  same_counts : (k c : ℕ) → m ≤ k → k < r.rounds → SameCount n r r' c k
  same_rounds : r.rounds ≡ r'.rounds
  same_order : r.order ≡ r'.order
  same_winner : r.winner ≡ r'.winner

-- what holds of m, and of all past it
from_on : (P : ℕ → Type 0) (m k : ℕ) → P m → (m < k → P k) → m ≤ k → P k
from_on P m k here later l = ⊎_elim (λ (e : m ≡ k). subst P e here) later (eq-or-lt_of_le l)

module _ (n : ℕ) (names names' : ℕ → List ℕ) (r r' : Result) (g : GoodNames n names) (g' : GoodNames n names') (w : IsResult n r) (w' : IsResult n r')
    (same : (i : ℕ) → i < n → names i ≡ names' i) where
  in_line : (m : ℕ) (u v : List ℕ) → m < r.rounds → m < r'.rounds → take m r.order ≡ take m r'.order → line n names r m ++ u ≡ line n names' r' m ++ v →
      LineTold n names names' r r' m u v
  in_line m u v l l' q e =
      let t = parts_told n n names names' r r' g g' w w' m u v l l' e in
      let tables = t.0 ∙ ap (λ (gone : List ℕ). table_where n (λ i. not (member (suc i) gone)) (counted n names' r' m)) (sym q) in
      let a = who_in_lem n r w m l in
      let b = who_in_lem n r' w' m l' in
      let one : who_in r m - 1 ≡ who_in r' m - 1 =
      g.different _ _ (omega (arith, a)) (omega (arith, b)) (t.1 ∙ sym (same _ (omega (arith, b)))) in
      record {
        same_counts = λ c h. counts_told n m (take m r.order) names names' r.counts r'.counts tables c h;
        same_last = t.2;
        same_who = omega (arith, a.0, b.0, one);
        same_rest = t.3;
      }

  module _ (m : ℕ) (u v : List ℕ) (l : m < r.rounds) (l' : m < r'.rounds) (q : take m r.order ≡ take m r'.order) (t : LineTold n names names' r r' m u v) where
    -- the last round
    ends : is_last r m ≡ true → RestTold n r r' m
    ends c =
        let c' : is_last r' m ≡ true = sym t.same_last ∙ c in
        let e = eqb-true (m + 1) r.rounds c in
        let e' = eqb-true (m + 1) r'.rounds c' in
        record {
          same_counts = λ k c a b. from_on (SameCount n r r' c) m k (t.same_counts c) (λ past. absurd (omega arith)) a;
          same_rounds = sym e ∙ e';
          same_order = sym (take_all m r.order (omega (arith, w.outs))) ∙ q ∙ take_all m r'.order (omega (arith, w'.outs));
          same_winner = rw (c, c') at t.same_who;
        }

    -- an earlier one: in both results the same goes out, and a round follows
    goes_on_lem : is_last r m ≡ false → (m + 1 < r.rounds) × (m + 1 < r'.rounds) × (take (suc m) r.order ≡ take (suc m) r'.order)
    goes_on_lem c =
        let c' : is_last r' m ≡ false = sym t.same_last ∙ c in
        let e = eqb-false (m + 1) r.rounds c in
        let e' = eqb-false (m + 1) r'.rounds c' in
        let out : get_or r.order m 0 ≡ get_or r'.order m 0 = rw (c, c') at t.same_who in (
          omega arith,
          omega arith,
          take-suc r.order m 0 (omega (arith, w.outs)) ∙ ap₂ (λ (x : List ℕ) (y : ℕ). x ++ (y ∷ [])) q out ∙ sym (take-suc r'.order m 0 (omega (arith, w'.outs))),
        )

    with_rest : RestTold n r r' (suc m) → RestTold n r r' m
    with_rest s =
        record {
          same_counts = λ k c a b. from_on (SameCount n r r' c) m k (t.same_counts c) (λ past. s.same_counts k c past b) a;
          same_rounds = s.same_rounds;
          same_order = s.same_order;
          same_winner = s.same_winner;
        }

  in_lines : (left left' m : ℕ) → m + left ≡ r.rounds → m + left' ≡ r'.rounds → 0 < left → 0 < left' → take m r.order ≡ take m r'.order →
      lines_from (line n names r) m left ≡ lines_from (line n names' r') m left' → RestTold n r r' m
  in_lines zero left' m a b l l' q e = absurd (omega arith)
  in_lines (suc left) zero m a b l l' q e = absurd (omega arith)
  in_lines (suc left) (suc left') m a b l l' q e =
      let u = lines_from (line n names r) (suc m) left in
      let v = lines_from (line n names' r') (suc m) left' in
      let k : m < r.rounds = omega arith in
      let k' : m < r'.rounds = omega arith in
      let t = in_line m u v k k' q e in
      by_cases (is_last r m) (ends m u v k k' q t)
      (λ c.
      let o = goes_on_lem m u v k k' q t c in
      with_rest m u v k k' q t (in_lines left left' (suc m) (omega arith) (omega arith) (omega (arith, a, o.0)) (omega (arith, b, o.1)) o.2 t.same_rest))

-- ---- from the first line on
first_line : (n : ℕ) (names : ℕ → List ℕ) (r : Result) → IsResult n r → text n names r ≡ line n names r 0 ++ lines_from (line n names r) 1 (length r.order)
first_line n names r w = text_is n names r ∙ ap (lines_from (line n names r) 0) (w.outs ∙ add-one (length r.order))

-- none is out
all_in : (i : ℕ) → not (member (suc i) []) ≡ true
unfolding member
all_in i = refl

module _ (n : ℕ) (names names' : ℕ → List ℕ) (r r' : Result) (g : GoodNames n names) (g' : GoodNames n names') (w : IsResult n r) (w' : IsResult n r') where
  of_one_size : items n names r 0 ≡ items n names' r' 0 → text n names r ≡ text n names' r' → SameTold n n names names' r r'
  of_one_size first e =
      let same : (i : ℕ) → i < n → names i ≡ names' i = λ i l. ap (λ (x : Item). x.0) (where_told n _ _ _ first i l (all_in i)) in
      let t = in_lines n names names' r r' g g' w w' same r.rounds r'.rounds 0 (zero-add _) (zero-add _) (omega (arith, w.outs)) (omega (arith, w'.outs)) refl
      (sym (text_is n names r) ∙ e ∙ text_is n names' r') in
      record {
        same_n = refl;
        same_names = same;
        same_rounds = t.same_rounds;
        same_counts = λ m c l. t.same_counts m c (omega arith) l;
        same_order = t.same_order;
        same_winner = t.same_winner;
      }

pub told : (n n' : ℕ) (names names' : ℕ → List ℕ) (r r' : Result) → GoodNames n names → GoodNames n' names' → IsResult n r → IsResult n' r' →
    text n names r ≡ text n' names' r' → SameTold n n' names names' r r'
told n n' names names' r r' g g' w w' e =
    let first = (parts_told n n' names names' r r' g g' w w' 0 _ _ (omega (arith, w.outs)) (omega (arith, w'.outs)) (sym (first_line n names r w) ∙ e ∙ first_line n' names' r' w')).0 in
    let size : n ≡ n' = sym (where_all n _ _ all_in) ∙ ap length first ∙ where_all n' _ _ all_in in
    subst
    (λ (k : ℕ). GoodNames k names' → IsResult k r' → items n names r 0 ≡ items k names' r' 0 → text n names r ≡ text k names' r' → SameTold n k names names' r r')
    size (λ g' w' first e. of_one_size n names names' r r' g g' w w' first e) g' w' first e
