-- The pick and the majority, one process at a time; the standing count, one sheet at a time.
use Prim.Native.Nat.{ℕ, suc, ◌+◌, ◌-◌, ◌≤◌, ◌<◌}
use mathlib.Core.Path.{◌≡◌, refl, sym, ap, ◌∙◌}
use mathlib.Core.Bool.{Bool, true, false, cond, ◌||◌}
use mathlib.Core.List.{List, [], ◌∷◌, ◌++◌, map, map-append}
use native.Mathlib.Numerals.{add-one}
use native.Mathlib.Omega.{arith}
use lib.Dec.{eqb}
use lib.ListN.{length, get_or, take, drop, set, replicate, take-append-drop, length-map, length-set}
use lib.Seq.{get_or-take, length-take-le, take-suc-set, drop-set-lt, drop-drop}
use borrow.Author.Tests.{eq-eqb, ne_eqb}
use Rattle.rules.specs.Count.{ended, member, count_of, fewer, pick, behind, majority, wins}
use Rattle.rules.proofs.Fewer.{decided, behind_is}
use Rattle.count.specs.State.{counts_by, passes, counts_on, list_of, standing_of, result_of, went_out, Listed, Kept}
use Rattle.rules.specs.Answers.{with_zeros}
use Rattle.numbers.specs.Below.{any_below}
use Rattle.count.proofs.Members.{any_same}
use Rattle.count.proofs.Comparison.{fewer_same, on_sheets}
use Rattle.count.specs.declared.Gone.{Gone}
use Rattle.count.specs.declared.Count.{Count}
use Rattle.count.specs.declared.Ended.{Ended}
use Rattle.count.specs.declared.Sheet.{Sheet}

-- ---- the pick, one process at a time: past process c, from the pick among those before it
module _ (gone : List ℕ) (test : (best c : ℕ) → Bool) (c best : ℕ) (some : 1 ≤ c) (e : best ≡ pick gone test (c - 1)) where
  number : suc (c - 1) ≡ c
  number = omega arith

  past : pick gone test c ≡ cond (member c gone) best (cond (eqb best 0 || test best c) c best)
  unfolding pick
  past = rw (← number, ← e)

  pub pick_out : member c gone ≡ true → best ≡ pick gone test c
  pick_out o = sym (past ∙ rw o)

  pub pick_first : member c gone ≡ false → best ≡ 0 → c ≡ pick gone test c
  pick_first o z = sym (past ∙ rw (o, eq-eqb best 0 z))

  pub pick_new : member c gone ≡ false → (best ≡ 0 → ⊥) → test best c ≡ true → c ≡ pick gone test c
  pick_new o z t = sym (past ∙ rw (o, ne_eqb best 0 z, t))

  pub pick_old : member c gone ≡ false → (best ≡ 0 → ⊥) → test best c ≡ false → best ≡ pick gone test c
  pick_old o z t = sym (past ∙ rw (o, ne_eqb best 0 z, t))

pub pick_none : (gone : List ℕ) (test : (best c : ℕ) → Bool) → 0 ≡ pick gone test 0
unfolding pick
pick_none gone test = refl

-- ---- the counts and the gone of a count's state
pub gone_is : (n : ℕ) (c : Count) → (standing_of n c).gone ≡ list_of c.gone
unfolding standing_of
gone_is n c = refl

pub same_gone : (n : ℕ) (c d : Count) → c.gone ≡ d.gone → (standing_of n c).gone ≡ (standing_of n d).gone
unfolding standing_of
same_gone n c d e = ap list_of e

pub sheets_many : (n : ℕ) (c : Count) → Kept c → length (standing_of n c).sheets ≡ c.gone.outs
unfolding standing_of
sheets_many n c k = length-map (take c.gone.outs c.sheets) (counts_on n) ∙ length-take-le c.gone.outs c.sheets (omega arith)

-- the majority, by the counts of this round's sheet
pub majority_is : (n : ℕ) (c : Count) (t : Sheet) (K : ℕ) →
    any_below n (λ i. passes (member (i + 1) (list_of c.gone)) (get_or t.counts i 0) K) ≡ majority n (standing_of n c) (counts_on n t) K
unfolding majority standing_of
majority_is n c t K =
    any_same n (λ i. passes (member (i + 1) (list_of c.gone)) (get_or t.counts i 0) K) (λ i. passes (member (suc i) (list_of c.gone)) (count_of (counts_on n t) (suc i)) K)
    (λ i h. let e : suc i - 1 ≡ i = omega arith in rw (add-one i, e, get_or-take n t.counts i 0 h))

-- who is behind whom, by this round's sheet and by those kept
pub behind_on : (n : ℕ) (c : Count) (t : Sheet) → Kept c → (a b : ℕ) → a - 1 < n → b - 1 < n →
    behind (standing_of n c) (counts_on n t) a b
    ≡ decided (get_or t.counts (a - 1) 0) (get_or t.counts (b - 1) 0) (fewer (counts_by c.sheets) c.gone.outs a b)
unfolding standing_of
behind_on n c t k a b l r =
    let long : c.gone.outs ≤ length c.sheets = omega (arith, k.listed.few, k.sheets_long) in
    behind_is (standing_of n c) (counts_on n t) a b
    ∙ rw (
      sheets_many n c k,
      get_or-take n t.counts (a - 1) 0 l,
      get_or-take n t.counts (b - 1) 0 r,
      fewer_same (map (counts_on n) (take c.gone.outs c.sheets)) (counts_by c.sheets) c.gone.outs a b
          (λ i h. on_sheets n c.gone.outs c.sheets i a h long l) (λ i h. on_sheets n c.gone.outs c.sheets i b h long r),
    )

-- those gone out are so many, and stand with zeros up to 8
pub listed_many : (g : Gone) → Listed g → length (list_of g) ≡ g.outs
listed_many g l = length-take-le g.outs g.order (omega (arith, l.few, l.order_long))

pub padded_order : (g : Gone) → Listed g → g.order ≡ with_zeros (list_of g)
unfolding with_zeros
padded_order g l = sym (take-append-drop g.outs g.order) ∙ rw (l.zeros, listed_many g l)

-- as few as have gone out, and the room's length, are facts of each value
pub kept : (c : Count) → length c.gone.order ≡ 8 → length c.sheets ≡ 8 → Kept c
kept c o s = record { listed = record { few = c.gone.few; order_long = o; zeros = c.gone.zeros }; sheets_long = s }

-- one more gone out, with the sheet of its round
pub zeros_next : (l : List ℕ) (k x : ℕ) → k < 8 → drop k l ≡ replicate (8 - k) 0 → drop (k + 1) (set l k x) ≡ replicate (8 - (k + 1)) 0
zeros_next l k x h e =
    let m : 8 - k ≡ suc (8 - (k + 1)) = omega arith in
    drop-set-lt (k + 1) l k x (omega arith) ∙ sym (drop-drop 1 k l) ∙ rw (e, m)

module _ (n : ℕ) (c : Count) (t : Sheet) (x : ℕ) (k : Kept c) (h : c.gone.outs < 8) where
  -- the sheets, with that of the round
  sheets_next : map (counts_on n) (take (c.gone.outs + 1) (set c.sheets c.gone.outs t)) ≡ (standing_of n c).sheets ++ (counts_on n t ∷ [])
  unfolding standing_of
  sheets_next = rw (add-one c.gone.outs, take-suc-set c.sheets c.gone.outs t (omega arith), map-append (counts_on n))

  pub standing_next : (r : Count) → r.gone.outs ≡ c.gone.outs + 1 → r.gone.order ≡ set c.gone.order c.gone.outs x → r.sheets ≡ set c.sheets c.gone.outs t →
      standing_of n r ≡ went_out (standing_of n c) x (counts_on n t)
  unfolding standing_of
  standing_next r o d s =
      let g : take r.gone.outs r.gone.order ≡ list_of c.gone ++ (x ∷ []) = rw (o, d, add-one c.gone.outs) (take-suc-set c.gone.order c.gone.outs x (omega arith)) in
      let w : map (counts_on n) (take r.gone.outs r.sheets) ≡ (standing_of n c).sheets ++ (counts_on n t ∷ []) = rw (o, s) sheets_next in
      λ i. record { gone = g i; sheets = w i }

  -- the count ended by the sheet, x the winner
  abbrev over : Ended
  over = record { count = record { gone = c.gone; sheets = set c.sheets c.gone.outs t }; winner = x }

  pub kept_over : Kept over.count
  kept_over = record { listed = k.listed; sheets_long = simp length-set k.sheets_long }

  pub result_over : x ≡ wins n (standing_of n c) (counts_on n t) → result_of n over ≡ ended n (standing_of n c) (counts_on n t)
  unfolding result_of
  result_over e =
      λ i. record { rounds = sym (sheets_many n c k) i + 1; counts = sheets_next i; order = sym (gone_is n c) i; winner = e i }
