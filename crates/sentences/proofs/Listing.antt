-- Those still in with their counts, one more at a time.
use Prim.Native.Nat.{ℕ, zero, suc, ◌+◌, ◌*◌, ◌-◌, ◌≤◌, ◌<◌}
use mathlib.Core.Path.{◌≡◌, refl, sym, ap, ◌∙◌}
use mathlib.Core.Bool.{true, false, cond, not}
use mathlib.Core.List.{List, [], ◌∷◌, ◌++◌, append-nil, append_assoc}
use mathlib.Core.Logic.{⊎_elim}
use native.Mathlib.Nat.{eq-or-lt_of_le}
use native.Mathlib.Numerals.{add-one}
use native.Mathlib.Omega.{arith}
use lib.Dec.{eqb}
use lib.ListN.{length, get_or, take, length-append}
use lib.Seq.{get_or-take}
use borrow.Author.Tests.{ne_eqb}
use Rattle.numbers.proofs.Tests.{by_cases}
use Rattle.rules.specs.Count.{member, table_where, count_of}
use Rattle.rules.specs.Sentences.{bytes, joined, count_text, count_texts}
use Rattle.sentences.specs.Pieces.{SinkLaws}

-- one more behind those joined
joined_more : (s : List ℕ) (xs : List (List ℕ)) (x : List ℕ) → joined s (xs ++ (x ∷ [])) ≡ joined s xs ++ cond (eqb (length xs) 0) [] s ++ x
unfolding joined
joined_more s [] x = refl
joined_more s (y ∷ []) x = refl
joined_more s (y ∷ z ∷ xs) x =
    let more : eqb (length (z ∷ xs)) 0 ≡ false = ne_eqb (length (z ∷ xs)) 0 (λ e. omega arith) in
    let all : eqb (length (y ∷ z ∷ xs)) 0 ≡ false = ne_eqb (length (y ∷ z ∷ xs)) 0 (λ e. omega arith) in
    let tail : joined s ((z ∷ xs) ++ (x ∷ [])) ≡ joined s (z ∷ xs) ++ s ++ x = rw more at (joined_more s (z ∷ xs) x) in
    rw all (ap (λ (t : List ℕ). y ++ s ++ t) tail ∙ simp append_assoc)

-- process i + 1 on a sheet of n
pub count_at_lem : (n i : ℕ) (counts : List ℕ) → i < n → get_or counts i 0 ≡ count_of (take n counts) (suc i)
count_at_lem n i counts l = let e : suc i - 1 ≡ i = omega arith in rw e (sym (get_or-take n counts i 0 l))

module _ (names : ℕ → List ℕ) (gone counts : List ℕ) where
  abbrev texts : (i : ℕ) → List (List ℕ)
  texts i = table_where i (λ i. not (member (suc i) gone)) (λ i. count_text (names i) (count_of counts (suc i)))

  -- what stands ahead of the next: nothing while none of the first i is still in
  abbrev pub comma : (i : ℕ) → List ℕ
  comma i = cond (eqb (length (texts i)) 0) [] (bytes ", ")

  abbrev pub next : (i : ℕ) → List ℕ
  next i = count_text (names i) (count_of counts (suc i))

  comma_few : (i : ℕ) → length (comma i) ≤ 2
  unfolding bytes
  comma_few i = by_cases (eqb (length (texts i)) 0) (λ e. rw e (omega arith)) (λ e. rw e (omega arith))

  starts_empty : [] ≡ count_texts names 0 gone counts
  unfolding table_where joined
  starts_empty = refl

  starts_bare : [] ≡ comma 0
  unfolding table_where
  starts_bare = refl

  module _ (i : ℕ) where
    out_texts : member (i + 1) gone ≡ true → texts (i + 1) ≡ texts i
    unfolding table_where
    out_texts e = let o : member (suc i) gone ≡ true = rw (← add-one i) e in rw (add-one i, o) (append-nil (texts i))

    in_texts : member (i + 1) gone ≡ false → texts (i + 1) ≡ texts i ++ (next i ∷ [])
    unfolding table_where
    in_texts e = let o : member (suc i) gone ≡ false = rw (← add-one i) e in rw (add-one i, o)

    in_comma : member (i + 1) gone ≡ false → bytes ", " ≡ comma (i + 1)
    in_comma e = rw (ne_eqb (length (texts (i + 1))) 0 (λ z. omega (arith, ap length (in_texts e), length-append (texts i) (next i ∷ []), z)))

    in_text : member (i + 1) gone ≡ false → count_texts names (i + 1) gone counts ≡ count_texts names i gone counts ++ comma i ++ next i
    in_text e = ap (joined (bytes ", ")) (in_texts e) ∙ joined_more (bytes ", ") (texts i) (next i)

    out_text : member (i + 1) gone ≡ true → count_texts names (i + 1) gone counts ≡ count_texts names i gone counts
    out_text e = ap (joined (bytes ", ")) (out_texts e)

  -- what more processes bring stands behind
  one_extends : (i : ℕ) → (more : List ℕ) × (count_texts names (i + 1) gone counts ≡ count_texts names i gone counts ++ more)
  one_extends i =
      by_cases (member (i + 1) gone) (λ e. ([], out_text i e ∙ sym (append-nil _))) (λ e. (comma i ++ next i, in_text i e ∙ append_assoc _ (comma i) (next i)))

  texts_extend : (i n : ℕ) → i ≤ n → (more : List ℕ) × (count_texts names n gone counts ≡ count_texts names i gone counts ++ more)
  texts_extend i zero l = let z : i ≡ 0 = omega arith in ([], rw (z, append-nil))
  texts_extend i (suc n) l =
      ⊎_elim (λ (e : i ≡ suc n). ([], rw (e, append-nil)))
      (λ (b : i < suc n).
      let some = texts_extend i n (omega arith) in
      let one = rw (add-one n) at (one_extends n) in
      (some.0 ++ one.0, one.1 ∙ ap (λ (t : List ℕ). t ++ one.0) some.1 ∙ append_assoc _ some.0 one.0)) (eq-or-lt_of_le l)

  -- ---- taken by a sink
  module _ {X : Type 0} {fits : X → List ℕ → Type 0} {took : X → List ℕ → X → Type 0} (w : SinkLaws fits took) (s : X) where
    pub record Listing (i : ℕ) (ahead : List ℕ) (t : X) : Type 0 where
      pub comma_is : ahead ≡ comma i
      pub taken : took s (count_texts names i gone counts) t
      pub few : length (count_texts names i gone counts) ≤ 40 * i

    pub listing_none : Listing 0 [] s
    listing_none = record { comma_is = starts_bare; taken = rw (← starts_empty) (w.none s); few = omega (arith, ap length starts_empty) }

    module _ {i : ℕ} {ahead : List ℕ} {t : X} (p : Listing i ahead t) where
      pub listing_out : member (i + 1) gone ≡ true → Listing (i + 1) ahead t
      listing_out e =
          record {
            comma_is = p.comma_is ∙ ap (λ (xs : List (List ℕ)). cond (eqb (length xs) 0) [] (bytes ", ")) (sym (out_texts i e));
            taken = rw (out_text i e) p.taken;
            few = omega (arith, ap length (out_text i e), p.few);
          }

      pub listing_in : member (i + 1) gone ≡ false → {u v : X} → took t ahead u → took u (next i) v → length (next i) ≤ length (names i) + 18 → length (names i) ≤ 20 → Listing (i + 1) (bytes ", ") v
      listing_in e {u} {v} a b l short =
          record {
            comma_is = in_comma i e;
            taken = rw (in_text i e, ← p.comma_is) (w.both _ _ _ _ _ (w.both _ _ _ _ _ p.taken a) b);
            few = omega (arith, ap length (in_text i e), length-append (count_texts names i gone counts ++ comma i) (next i), length-append (count_texts names i gone counts) (comma i), comma_few i, p.few);
          }

      -- one more fits where all do
      module _ (n : ℕ) (l : i < n) (e : member (i + 1) gone ≡ false) (h : fits s (count_texts names n gone counts)) where
        one_fits : fits s (count_texts names i gone counts ++ ahead ++ next i)
        one_fits = let more = texts_extend (i + 1) n (omega arith) in rw (p.comma_is, ← in_text i e) (w.front _ _ more.0 (rw more.1 at h))

        pub comma_fits : fits t ahead
        comma_fits = w.rest _ _ (count_texts names i gone counts) ahead (w.front _ _ (next i) one_fits) p.taken

        pub next_fits : {u : X} → took t ahead u → fits u (next i)
        next_fits a = w.rest _ _ (count_texts names i gone counts ++ ahead) (next i) one_fits (w.both _ _ _ _ _ p.taken a)
