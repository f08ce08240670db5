-- Laws of an output whose front is written, for functions that write into its unwritten rest or into a place within what is written.
use Prim.Native.Nat.{ℕ, suc, ◌+◌, ◌*◌, ◌-◌, ◌≤◌, ◌<◌}
use mathlib.Core.Path.{◌≡◌, refl, ◌∙◌, sym}
use mathlib.Core.List.{List, [], ◌∷◌, ◌++◌, append_assoc, append-nil}
use native.Mathlib.Nat.{le_refl, zero-add}
use native.Mathlib.Numerals.{add-one}
use native.Mathlib.Omega.{arith}
use lib.ListN.{length, get_or, set, take, drop, length-append, length-drop, length-take, length-set, take-append-drop, drop_of_length-le}
use lib.Seq.{sets, sets-eq, take-suc, drop-cons, set_at, append_snoc, take_at, drop_at, take_all, drop-drop, length-take-le}
use borrow.Rule.Slice.PartMut.{mid_of, put_mid}
use Rattle.numbers.specs.Below.{concat_below}
use Rattle.numbers.proofs.Blocks.{length_blocks}
use Rattle.rules.specs.Bytes.{part}
use Rattle.output.specs.Written.{written}

-- stores to the first places, one after the other
pub front : (w o : List ℕ) → length w ≤ length o → sets o 0 w ≡ written w o
unfolding written
front w o h = rw (← zero-add (length w)) (sets-eq w o 0 (omega arith))

pub none : (o : List ℕ) → o ≡ written [] o
unfolding written
none o = refl

-- all from a place on
pub rest_is : (a : ℕ) (l : List ℕ) → a ≤ length l → mid_of a (length l - a) l ≡ drop a l
rest_is a l h = take_all (length l - a) (drop a l) (simp length-drop (omega arith))

-- a part that reaches the end is put back
pub put_rest : (a : ℕ) (l r : List ℕ) → a ≤ length l → put_mid a (length l - a) l r ≡ take a l ++ r
put_rest a l r h =
    let past : drop (length l - a) (drop a l) ≡ [] = drop_of_length-le (drop a l) {i = length l - a} (simp length-drop (omega arith)) in
    rw (past, append-nil)

-- o's front is w, and b is written at the front of what is left: `written b` of the part that starts where w ends, put back
pub more : (w b o l r : List ℕ) (a : ℕ) → length w ≡ a → l ≡ written w o → r ≡ written b (mid_of a (length l - a) l) → put_mid a (length l - a) l r ≡ written (w ++ b) o
unfolding written
more w b o l r a n el er =
    let rest : List ℕ = drop (length w) o in
    let t : take a (w ++ rest) ≡ w = take_at w rest a n in
    let d : drop a (w ++ rest) ≡ rest = drop_at w rest a n in
    let k : length (w ++ rest) - a ≡ length rest = simp length-append (omega arith) in
    let all : take (length rest) rest ≡ rest = take_all (length rest) rest (le_refl (length rest)) in
    let past : drop (length rest) rest ≡ [] = drop_of_length-le rest (le_refl (length rest)) in
    rw (er, el, t, d, k, all, past, append-nil, append_assoc, length-append, drop-drop)

-- what stands past the front may count as written
pub skip : (w o l : List ℕ) (a k : ℕ) → length w ≡ a → a + k ≤ length o → l ≡ written w o → l ≡ written (w ++ part o a k) o
unfolding written
skip w o l a k n h e =
    let m : length (w ++ take k (drop a o)) ≡ a + k = simp (length-append, length-take, length-drop) (omega arith) in
    let s : take k (drop a o) ++ drop (a + k) o ≡ drop a o = rw (← drop-drop k a o) (take-append-drop k (drop a o)) in
    e ∙ rw (m, n, append_assoc, s)

-- what stands in the midst of the front is written anew
pub patch : (x old new y o l r : List ℕ) (a : ℕ) → length x ≡ a → length new ≡ length old → l ≡ written (x ++ (old ++ y)) o →
    r ≡ written new (mid_of a (length l - a) l) → put_mid a (length l - a) l r ≡ written (x ++ (new ++ y)) o
unfolding written
patch x old new y o l r a n m el er =
    let z : List ℕ = y ++ drop (length (x ++ (old ++ y))) o in
    let whole : l ≡ x ++ (old ++ z) = el ∙ rw (append_assoc x (old ++ y), append_assoc old y) in
    let h : a ≤ length l = rw whole (simp length-append (omega arith)) in
    let d : drop a l ≡ old ++ z = rw whole (drop_at x (old ++ z) a n) in
    let t : take a l ≡ x = rw whole (take_at x (old ++ z) a n) in
    let past : drop (length new) (old ++ z) ≡ z = drop_at old z (length new) (sym m) in
    let s : length (x ++ (new ++ y)) ≡ length (x ++ (old ++ y)) = simp length-append (omega arith) in
    put_rest a l r h ∙ rw (er, rest_is a l h, d, t, past, s, append_assoc x (new ++ y), append_assoc new y)

-- one more of a run of lists
pub blocks_more : (f : ℕ → List ℕ) (n : ℕ) → concat_below (n + 1) f ≡ concat_below n f ++ f n
unfolding concat_below
blocks_more f n = rw add-one

-- what stands from a place within the front on
pub rest_from : (x w o l : List ℕ) (a : ℕ) → length x ≡ a → l ≡ written (x ++ w) o → mid_of a (length l - a) l ≡ w ++ drop (length (x ++ w)) o
unfolding written
rest_from x w o l a n e =
    let whole : l ≡ x ++ (w ++ drop (length (x ++ w)) o) = e ∙ rw append_assoc in
    let h : a ≤ length l = rw whole (simp length-append (omega arith)) in
    rest_is a l h ∙ rw whole (drop_at x _ a n)

-- one more of a run of lists is written where the run ends
pub joined_more : (f : ℕ → List ℕ) (i a : ℕ) (o l x : List ℕ) → length (concat_below i f) ≡ a → l ≡ written (concat_below i f) o →
    x ≡ written (f i) (mid_of a (length l - a) l) → put_mid a (length l - a) l x ≡ written (concat_below (i + 1) f) o
joined_more f i a o l x ea el ex = more (concat_below i f) (f i) o l x a ea el ex ∙ rw (blocks_more f i)

-- lists of one width
pub block_more : (f : ℕ → List ℕ) (w i a : ℕ) (o l x : List ℕ) → ((j : ℕ) → j < i → length (f j) ≡ w) → a ≡ i * w → l ≡ written (concat_below i f) o →
    x ≡ written (f i) (mid_of a (length l - a) l) → put_mid a (length l - a) l x ≡ written (concat_below (i + 1) f) o
block_more f w i a o l x wide ea el ex = joined_more f i a o l x (length_blocks i w f wide ∙ sym ea) el ex

-- ---- a list copied to the front, one element after another: none yet, one more, and all
copy_more : (s o : List ℕ) (i : ℕ) → i < length s → length s ≤ length o → set (written (take i s) o) i (get_or s i 0) ≡ written (take (i + 1) s) o
unfolding written
copy_more s o i h k =
    let n : length (take i s) ≡ i = length-take-le i s (omega arith) in
    let m : length (take i s ++ (get_or s i 0 ∷ [])) ≡ suc i = simp length-append (omega arith) in
    let b : i < length o = omega arith in
    rw (add-one, take-suc s i 0 h, m, n, drop-cons o i 0 b, append_snoc) (set_at (take i s) (get_or o i 0) (drop (suc i) o) (get_or s i 0) i n)

pub record Copied (s o out : List ℕ) (i : ℕ) : Type 0 where
  pub few : i ≤ length s
  pub long : length out ≡ length o
  pub begun : out ≡ written (take i s) o

module _ (s o : List ℕ) where
  pub copied_none : Copied s o o 0
  copied_none = record { few = omega arith; long = refl; begun = none o }

  module _ {out : List ℕ} {i : ℕ} (w : Copied s o out i) where
    pub copied_more : i < length s → length s ≤ length o → Copied s o (set out i (get_or s i 0)) (i + 1)
    copied_more l b = record { few = omega arith; long = length-set out i _ ∙ w.long; begun = rw w.begun (copy_more s o i l b) }

    pub copied_all : length s ≤ i → out ≡ written s o
    copied_all l = w.begun ∙ rw (take_all i s l)
