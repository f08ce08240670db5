-- The search for a repeat among draws: those of one low byte are chained, each to the one before it.
use Prim.Native.Nat.{ℕ, ◌+◌, ◌-◌, ◌%◌, ◌≤◌, ◌<◌}
use mathlib.Core.Path.{◌≡◌, refl, sym, ap}
use mathlib.Core.List.{List}
use native.Mathlib.Nat.{mod-lt}
use native.Mathlib.Omega.{arith}
use borrow.Author.Count.{below_more}
use lib.Dec.{eqb}
use borrow.Author.Tests.{eqb-true, eqb-false}
use lib.ListN.{length, get_or, set, replicate, length-set}
use lib.Seq.{get_or-set_same, get_or-set_other}
use Rattle.numbers.proofs.Tables.{zero_everywhere}
use Rattle.numbers.proofs.Tests.{by_cases}
use Rattle.jobs.proofs.Repeats.{Fresh}

module _ (draws : List ℕ) (from : ℕ) where
  abbrev x : ℕ → ℕ
  x i = get_or draws (from + i) 0

  -- among the first j, h (from 1) is the last whose low byte is b; 0 where none has it
  pub record Last (j b h : ℕ) : Type 0 where
    pub within : h ≤ j
    pub has : 0 < h → x (h - 1) % 256 ≡ b
    pub none_later : (i : ℕ) → h ≤ i → i < j → x i % 256 ≡ b → ⊥

  -- what the two arrays hold of the first j
  pub record Chained (last prior : List ℕ) (j : ℕ) : Type 0 where
    pub bytes : length last ≡ 256
    pub places : length prior ≡ 64
    pub last_of : (b : ℕ) → b < 256 → Last j b (get_or last b 0)
    pub prior_of : (i : ℕ) → i < j → Last i (x i % 256) (get_or prior i 0)

  -- the j-th is none of those from h on, and the h-th (from 1) has its low byte
  pub record Searched (j h : ℕ) : Type 0 where
    pub within : h ≤ j
    pub has : 0 < h → x (h - 1) % 256 ≡ x j % 256
    pub apart : (i : ℕ) → h ≤ i → i < j → x i ≡ x j → ⊥

  pub chained_none : Chained (replicate 256 0) (replicate 64 0) 0
  chained_none =
      record {
        bytes = refl;
        places = refl;
        last_of = λ b l. rw (zero_everywhere 256 b) (record { within = omega arith; has = λ z. absurd (omega arith); none_later = λ i a b. absurd (omega arith) });
        prior_of = λ i l. absurd (omega arith);
      }

  module _ (last prior : List ℕ) (j : ℕ) (c : Chained last prior j) where
    low : x j % 256 < 256
    low = mod-lt (x j) (omega arith)

    -- the j-th is chained
    pub chained_more : j < 64 → Chained (set last (x j % 256) (j + 1)) (set prior j (get_or last (x j % 256) 0)) (j + 1)
    chained_more l =
        record {
          bytes = simp length-set c.bytes;
          places = simp length-set c.places;
          last_of = λ b a.
              by_cases (eqb b (x j % 256))
              (λ t.
              let same = eqb-true b (x j % 256) t in
              rw (same, get_or-set_same last (x j % 256) (j + 1) 0 (omega (arith, low, c.bytes)))
              (record { within = omega arith; has = λ z. ap (λ (i : ℕ). x i % 256) (omega arith); none_later = λ i d e. absurd (omega arith) }))
              (λ t.
              let other = eqb-false b (x j % 256) t in
              let w = c.last_of b a in
              rw (get_or-set_other last (x j % 256) b (j + 1) 0 other)
              (record { within = omega (arith, w.within); has = w.has; none_later = λ i d e f. by_cases (eqb i j) (λ y. other (rw (eqb-true i j y) at (sym f))) (λ y. w.none_later i d (omega (arith, eqb-false i j y)) f) }));
          prior_of =
              below_more (λ (i : ℕ). Last i (x i % 256) (get_or (set prior j (get_or last (x j % 256) 0)) i 0)) j
              (λ i b. rw (get_or-set_other prior j i (get_or last (x j % 256) 0) 0 (λ z. omega arith)) (c.prior_of i b))
              (rw (get_or-set_same prior j (get_or last (x j % 256) 0) 0 (omega (arith, c.places))) (c.last_of (x j % 256) low));
        }

  -- where the search for it ends
  pub search_ends : (j h : ℕ) → h ≡ 0 → Searched j h → Fresh draws from j
  search_ends j h z s i l = s.apart i (omega arith) l
