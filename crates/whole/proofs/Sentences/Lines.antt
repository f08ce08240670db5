-- A line of the text tells who is counted, with which counts, and who leaves or wins.
use Prim.Native.Nat.{ℕ}
use mathlib.Core.Path.{◌≡◌, refl, sym, ap, ap₂, ◌∙◌}
use mathlib.Core.Bool.{Bool, true, false, cond, true≢false}
use mathlib.Core.List.{List, [], ◌∷◌, ◌++◌, map, append_assoc, append_cancel_left, head-eq_of_cons-eq, tail-eq_of_cons-eq}
use native.Mathlib.Omega.{arith}
use Rattle.rules.specs.Sentences.{bytes, decimal, joined, opening, count_text}
use Rattle.rules.specs.Notice.{is_letter}
use Rattle.whole.proofs.Sentences.Decimals.{Each, is_digit, digits, decimal_told}

-- ---- a run of elements that pass a test, up to one that fails
abbrev Stops : (p : ℕ → Bool) → List ℕ → Type 0
Stops p [] = ⊥
Stops p (c ∷ u) = p c ≡ false

module _ (p : ℕ → Bool) where
  goes_on_lem : (c : ℕ) (u v : List ℕ) → p c ≡ true → Stops p u → u ≡ c ∷ v → ⊥
  goes_on_lem c [] v t f e = f
  goes_on_lem c (d ∷ u) v t f e = true≢false (sym t ∙ rw (head-eq_of_cons-eq e) at f)

  run : (x y u v : List ℕ) → Each p x → Each p y → Stops p u → Stops p v → x ++ u ≡ y ++ v → (x ≡ y) × (u ≡ v)
  run [] [] u v a b f g e = (refl, e)
  run [] (d ∷ y) u v a b f g e = absurd (goes_on_lem d u (y ++ v) b.0 f e)
  run (c ∷ x) [] u v a b f g e = absurd (goes_on_lem c v (x ++ u) a.0 g (sym e))
  run (c ∷ x) (d ∷ y) u v a b f g e =
      let w = run x y u v a.1 b.1 f g (tail-eq_of_cons-eq e) in
      (ap₂ ◌∷◌ (head-eq_of_cons-eq e) w.0, w.1)

-- ---- names with counts, and behind the last a semicolon, 59
abbrev pub Item : Type 0
Item = List ℕ × ℕ

abbrev pub item : Item → List ℕ
item x = count_text x.0 x.1

abbrev pub Named : List Item → Type 0
Named [] = Unit
Named (x ∷ xs) = Each is_letter x.0 × Named xs

-- what follows one of them: the others, and u
after : List Item → List ℕ → List ℕ
after [] u = u
after (x ∷ xs) u = bytes ", " ++ (item x ++ after xs u)

joined_none : (s u : List ℕ) → joined s [] ++ u ≡ u
unfolding joined
joined_none s u = refl

joined_one : (s x : List ℕ) → joined s (x ∷ []) ≡ x
unfolding joined
joined_one s x = refl

joined_more : (s x y : List ℕ) (xs : List (List ℕ)) (u : List ℕ) → joined s (x ∷ y ∷ xs) ++ u ≡ x ++ (s ++ (joined s (y ∷ xs) ++ u))
unfolding joined
joined_more s x y xs u = append_assoc (x ++ s) (joined s (y ∷ xs)) u ∙ append_assoc x s _

joined_is : (x : Item) (xs : List Item) (u : List ℕ) → joined (bytes ", ") (map item (x ∷ xs)) ++ u ≡ item x ++ after xs u
unfolding after
joined_is x [] u = ap (λ (t : List ℕ). t ++ u) (joined_one (bytes ", ") (item x))
joined_is x (y ∷ xs) u = joined_more (bytes ", ") (item x) (item y) (map item xs) u ∙ ap (λ (t : List ℕ). item x ++ (bytes ", " ++ t)) (joined_is y xs u)

stops_after : (xs : List Item) (u : List ℕ) → Stops is_digit (after xs (59 ∷ u))
unfolding after bytes is_digit
stops_after [] u = refl
stops_after (x ∷ xs) u = refl

-- one of them, up to what is no digit
item_told : (x y : Item) (u v : List ℕ) → Each is_letter x.0 → Each is_letter y.0 → Stops is_digit u → Stops is_digit v → item x ++ u ≡ item y ++ v → (x ≡ y) × (u ≡ v)
unfolding bytes is_letter
item_told x y u v a b f g e =
    let w = run is_letter x.0 y.0 (bytes " counts " ++ (decimal x.1 ++ u)) (bytes " counts " ++ (decimal y.1 ++ v)) a b refl refl (simp append_assoc at e) in
    let n = run is_digit (decimal x.1) (decimal y.1) u v (digits x.1) (digits y.1) f g (append_cancel_left (bytes " counts ") _ _ w.1) in
    let c = decimal_told x.1 y.1 n.0 in
    (ap₂ {C = Item} (λ (t : List ℕ) (k : ℕ). (t, k)) w.0 c, n.1)

after_told : (a b : List Item) (u v : List ℕ) → Named a → Named b → after a (59 ∷ u) ≡ after b (59 ∷ v) → (a ≡ b) × (u ≡ v)
unfolding after bytes
after_told [] [] u v p q e = (refl, tail-eq_of_cons-eq e)
after_told [] (y ∷ b) u v p q e = absurd (omega (arith, head-eq_of_cons-eq e))
after_told (x ∷ a) [] u v p q e = absurd (omega (arith, head-eq_of_cons-eq e))
after_told (x ∷ a) (y ∷ b) u v p q e =
    let w = item_told x y (after a (59 ∷ u)) (after b (59 ∷ v)) p.0 q.0 (stops_after a u) (stops_after b v) (append_cancel_left (bytes ", ") _ _ e) in
    let rest = after_told a b u v p.1 q.1 w.1 in
    (ap₂ ◌∷◌ w.0 rest.0, rest.1)

-- a semicolon begins none of them
none_told : (y : Item) (u v : List ℕ) → Each is_letter y.0 → 59 ∷ u ≡ item y ++ v → ⊥
unfolding bytes is_letter
none_told y u v b e =
    let w = run is_letter [] y.0 (59 ∷ u) (bytes " counts " ++ (decimal y.1 ++ v)) (record {}) b refl refl (simp append_assoc at e) in
    omega (arith, head-eq_of_cons-eq w.1)

-- all of them, up to a semicolon
items_told : (a b : List Item) (u v : List ℕ) → Named a → Named b →
    joined (bytes ", ") (map item a) ++ (59 ∷ u) ≡ joined (bytes ", ") (map item b) ++ (59 ∷ v) → (a ≡ b) × (u ≡ v)
unfolding after
items_told [] [] u v p q e = (refl, tail-eq_of_cons-eq (sym (joined_none (bytes ", ") (59 ∷ u)) ∙ e ∙ joined_none (bytes ", ") (59 ∷ v)))
items_told [] (y ∷ b) u v p q e = absurd (none_told y u _ q.0 (sym (joined_none (bytes ", ") (59 ∷ u)) ∙ e ∙ joined_is y b (59 ∷ v)))
items_told (x ∷ a) [] u v p q e = absurd (none_told x v _ p.0 (sym (joined_none (bytes ", ") (59 ∷ v)) ∙ sym e ∙ joined_is x a (59 ∷ u)))
items_told (x ∷ a) (y ∷ b) u v p q e = after_told (x ∷ a) (y ∷ b) u v p q (ap (λ (t : List ℕ). bytes ", " ++ t) (sym (joined_is x a (59 ∷ u)) ∙ e ∙ joined_is y b (59 ∷ v)))

-- ---- a line: "Round ", the number, ": ", the counts, "; ", a name, and " wins." or " leaves." with a line feed
abbrev pub closing : Bool → List ℕ
closing last = cond last (bytes " wins.") (bytes " leaves.") ++ (10 ∷ [])

abbrev pub line_of : (m : ℕ) (a : List Item) (who : List ℕ) (last : Bool) → List ℕ
line_of m a who last = opening m ++ (joined (bytes ", ") (map item a) ++ (bytes "; " ++ (who ++ closing last)))

closing_told : (last last' : Bool) (u v : List ℕ) → closing last ++ u ≡ closing last' ++ v → (last ≡ last') × (u ≡ v)
unfolding bytes
closing_told true true u v e = (refl, append_cancel_left (closing true) u v e)
closing_told false false u v e = (refl, append_cancel_left (closing false) u v e)
closing_told true false u v e = absurd (omega (arith, head-eq_of_cons-eq (tail-eq_of_cons-eq e)))
closing_told false true u v e = absurd (omega (arith, head-eq_of_cons-eq (tail-eq_of_cons-eq e)))

closing_stops : (last : Bool) (u : List ℕ) → Stops is_letter (closing last ++ u)
unfolding bytes is_letter
closing_stops true u = refl
closing_stops false u = refl

-- a name, and what it does
who_told : (who who' : List ℕ) (last last' : Bool) (u v : List ℕ) → Each is_letter who → Each is_letter who' → who ++ (closing last ++ u) ≡ who' ++ (closing last' ++ v) →
    (who ≡ who') × (last ≡ last') × (u ≡ v)
who_told who who' last last' u v p q e =
    let w = run is_letter who who' (closing last ++ u) (closing last' ++ v) p q (closing_stops last u) (closing_stops last' v) e in
    let c = closing_told last last' u v w.1 in
    (w.0, c.0, c.1)

regroup : (o c s w e u : List ℕ) → (o ++ (c ++ (s ++ (w ++ e)))) ++ u ≡ o ++ (c ++ (s ++ (w ++ (e ++ u))))
regroup o c s w e u = simp append_assoc

pub line_told : (m : ℕ) (a b : List Item) (who who' : List ℕ) (last last' : Bool) (u v : List ℕ) → Named a → Named b → Each is_letter who → Each is_letter who' →
    line_of m a who last ++ u ≡ line_of m b who' last' ++ v → (a ≡ b) × (who ≡ who') × (last ≡ last') × (u ≡ v)
unfolding bytes
line_told m a b who who' last last' u v p q l l' e =
    let same = sym (regroup (opening m) (joined (bytes ", ") (map item a)) (bytes "; ") who (closing last) u) ∙ e ∙
    regroup (opening m) (joined (bytes ", ") (map item b)) (bytes "; ") who' (closing last') v in
    let w = items_told a b (32 ∷ (who ++ (closing last ++ u))) (32 ∷ (who' ++ (closing last' ++ v))) p q (append_cancel_left (opening m) _ _ same) in
    let n = who_told who who' last last' u v l l' (tail-eq_of_cons-eq w.1) in
    (w.0, n.0, n.1, n.2)
