-- Two processes compared, one sheet at a time.
use Prim.Native.Nat.{ℕ, zero, suc, ◌-◌, ◌≤◌, ◌<◌}
use native.Mathlib.Nat.{not-suc-le-zero, le_of_suc-le-suc}
use native.Mathlib.Omega.{arith}
use mathlib.Core.Path.{◌≡◌, refl, sym, ap, ◌∙◌}
use mathlib.Core.Bool.{false}
use mathlib.Core.List.{List, [], ◌∷◌, map}
use lib.Dec.{ltb}
use lib.ListN.{length, get_or, take}
use lib.Seq.{get_or-take, length-take-le}
use Rattle.rules.specs.Count.{count_in, fewer}
use Rattle.rules.proofs.Fewer.{decided, decided_same, decided_differ}
use Rattle.count.specs.State.{counts_by, counts_on}
use Rattle.count.specs.declared.Sheet.{Sheet}

-- an element of a list, mapped, whatever stands past the ends
pub map_at : {A B : Type 0} (f : A → B) (l : List A) (m : ℕ) (d : A) (e : B) → m < length l → get_or (map f l) m e ≡ f (get_or l m d)
map_at f [] m d e h = absurd (not-suc-le-zero h)
map_at f (x ∷ xs) zero d e h = refl
map_at f (x ∷ xs) (suc m) d e h = map_at f xs m d e (le_of_suc-le-suc h)

-- from the latest of so many rounds on: where the two are equal in all but the first i
module _ (sheets : List Sheet) (rounds a b i : ℕ) (some : 0 < i) (long : i ≤ length sheets)
    (same : fewer (counts_by sheets) rounds a b ≡ fewer (counts_by sheets) i a b) where
  abbrev votes : (c : ℕ) → ℕ
  votes c = get_or (get_or sheets (i - 1) (record { counts = [] })).counts (c - 1) 0

  by_votes : fewer (counts_by sheets) rounds a b ≡ decided (votes a) (votes b) (fewer (counts_by sheets) (i - 1) a b)
  unfolding fewer
  by_votes =
      let m : i ≡ suc (i - 1) = omega arith in
      let e = map_at (λ (t : Sheet). t.counts) sheets (i - 1) (record { counts = [] }) [] (omega arith) in
      same ∙ ap (λ (k : ℕ). fewer (counts_by sheets) k a b) m ∙ rw e

  pub fewer_more : votes a ≡ votes b → fewer (counts_by sheets) rounds a b ≡ fewer (counts_by sheets) (i - 1) a b
  fewer_more e = by_votes ∙ decided_same (votes a) (votes b) _ e

  pub fewer_found : (votes a ≡ votes b → ⊥) → ltb (votes a) (votes b) ≡ fewer (counts_by sheets) rounds a b
  fewer_found ne = sym (by_votes ∙ decided_differ (votes a) (votes b) _ ne)

pub fewer_none : (sheets : List (List ℕ)) (i a b : ℕ) → i ≤ 0 → fewer sheets i a b ≡ false
unfolding fewer
fewer_none sheets i a b l = let z : i ≡ 0 = omega arith in rw z

-- the counts of n processes in so many rounds are those of all sheets
pub on_sheets : (n rounds : ℕ) (sheets : List Sheet) (m c : ℕ) → m < rounds → rounds ≤ length sheets → c - 1 < n →
    count_in (map (counts_on n) (take rounds sheets)) m c ≡ count_in (counts_by sheets) m c
on_sheets n rounds sheets m c l r h =
    let d : Sheet = record { counts = [] } in
    rw (
      map_at (counts_on n) (take rounds sheets) m d [] (omega (arith, length-take-le rounds sheets r)),
      get_or-take rounds sheets m d l,
      map_at (λ (t : Sheet). t.counts) sheets m d [] (omega arith),
    )
    (get_or-take n (get_or sheets m d).counts (c - 1) 0 h)

pub fewer_same : (s t : List (List ℕ)) (m a b : ℕ) → ((i : ℕ) → i < m → count_in s i a ≡ count_in t i a) → ((i : ℕ) → i < m → count_in s i b ≡ count_in t i b) →
    fewer s m a b ≡ fewer t m a b
unfolding fewer
fewer_same s t zero a b f g = refl
fewer_same s t (suc m) a b f g = rw (f m (omega arith), g m (omega arith), fewer_same s t m a b (λ i l. f i (omega arith)) (λ i l. g i (omega arith)))
