-- The tests of the RT record at a place.
use Prim.Native.Nat.{ℕ, zero, suc, ◌+◌, ◌*◌, ◌≤◌, ◌<◌}
use mathlib.Core.Path.{◌≡◌, refl, sym, ap, ◌∙◌}
use mathlib.Core.Bool.{true, false, and-eq-true_iff}
use mathlib.Core.List.{List, [], ◌∷◌, ◌++◌, append_assoc}
use mathlib.Core.Logic.{⊎_elim}
use native.Mathlib.Nat.{eq-or-lt_of_le, le_of_suc-le-suc}
use native.Mathlib.Numerals.{add-one}
use native.Mathlib.Omega.{arith}
use lib.Dec.{leb, ltb, eqb}
use lib.ListN.{length, get_or, take, set}
use lib.Seq.{take-suc-set, get_or-take}
use borrow.Author.Tests.{le-leb, leb-true}
use Rattle.numbers.specs.Below.{all_below}
use Rattle.numbers.proofs.Tests.{all_same}
use Rattle.group.specs.Elements.{parameters_of}
use Rattle.rules.specs.Bytes.{number2}
use Rattle.rules.specs.Records.{RT, sheet_length}
use Rattle.rules.specs.Count.{table}
use Rattle.rules.specs.Tests.{Test, first_fault, ◌or_else◌}
use Rattle.rules.specs.Audit.{pair_opens}
use Rattle.rules.specs.Sheet as said
use Rattle.rules.specs.Sheet.{out_at, count_at, exponent_at, sheet_fields, tallies, sheet_fault}
use Rattle.rules.specs.Answers.{refusal_number}
use Rattle.rules.specs.declared.Refusal.{Refusal}
use Rattle.rules.proofs.Faults.{first_holds}
use Rattle.rules.proofs.Lists.{table_at}
use Rattle.header.specs.declared.Head.{Head}
use Rattle.std.specs.Prelude.{Ok, Err}
use Rattle.sheets.specs.declared.SheetFields.{SheetFields}
use Rattle.sheets.specs.declared.tally.Tally.{Tally}
use Rattle.header.specs.Heads.{head_of}
use Rattle.sheets.specs.Tallies.{element_of, Tallied}
use Rattle.frames.specs.Framed.{Framed}
use Rattle.sheets.specs.Sheets.{Counted, exponent_of, count_good}

module _ (s : List ℕ) (h : Head) (C at : ℕ) where
  -- ---- the walk of the fields
  one_more : (i : ℕ) (rest : List Test) →
      sheet_fields s (head_of s h) at C (suc i) ++ rest
      ≡ sheet_fields s (head_of s h) at C i
      ++ ((leb (count_at s at i) C or_else 9) ∷ (ltb (exponent_at s at i) h.setup.group.q or_else 7) ∷ rest)
  unfolding sheet_fields
  one_more i rest = append_assoc (sheet_fields s (head_of s h) at C i) _ rest

  pub pass : (i : ℕ) → all_below i (count_good s C h.setup.group.q at) ≡ true → (rest : List Test) →
      first_fault (sheet_fields s (head_of s h) at C i ++ rest) ≡ first_fault rest
  unfolding sheet_fields all_below first_fault
  pass zero t rest = refl
  pass (suc i) t rest =
      let w = simp and-eq-true_iff at t in
      ap (λ (l : List Test). first_fault l) (one_more i rest) ∙ pass i w.0 _ ∙ rw (w.1.0, w.1.1)

  -- the first bad pair of fields decides
  first_bad_lem : (n i x : ℕ) → i < n → all_below i (count_good s C h.setup.group.q at) ≡ true →
      ((rest : List Test) → first_fault ((leb (count_at s at i) C or_else 9) ∷ (ltb (exponent_at s at i) h.setup.group.q or_else 7) ∷ rest) ≡ x) →
      (rest : List Test) → first_fault (sheet_fields s (head_of s h) at C n ++ rest) ≡ x
  first_bad_lem zero i x l t b rest = absurd (omega arith)
  first_bad_lem (suc n) i x l t b rest =
      ap (λ (y : List Test). first_fault y) (one_more n rest)
      ∙ ⊎_elim (λ (d : i ≡ n). rw (← d) (pass i t _ ∙ b rest)) (λ (y : i < n). first_bad_lem n i x y t b _) (eq-or-lt_of_le (le_of_suc-le-suc l))

  module _ (n i : ℕ) (l : i < n) (t : all_below i (count_good s C h.setup.group.q at) ≡ true) where
    pub count_large : leb (count_at s at i) C ≡ false → (rest : List Test) → first_fault (sheet_fields s (head_of s h) at C n ++ rest) ≡ 9
    unfolding first_fault
    count_large b = first_bad_lem n i 9 l t (λ rest. rw b)

    pub exponent_large : leb (count_at s at i) C ≡ true → ltb (exponent_at s at i) h.setup.group.q ≡ false →
        (rest : List Test) → first_fault (sheet_fields s (head_of s h) at C n ++ rest) ≡ 7
    unfolding first_fault
    exponent_large b c = first_bad_lem n i 7 l t (λ rest. rw (b, c))

  -- ---- the tally equations, with the products carried and what was read
  pub tallies_are : (t : Tally) (T : said.Tally) (r : SheetFields) → Tallied h.setup.group.p h.n t T → Counted s h C at (Ok r) →
      tallies s (head_of s h) at T
      ≡ all_below h.n (λ i. pair_opens (parameters_of h.setup.group) (element_of t.b i) (element_of t.y i) (exponent_of r.s i) (get_or r.sheet.counts i 0))
  unfolding tallies Counted
  tallies_are t T r v g =
      all_same h.n _ (λ i. pair_opens (parameters_of h.setup.group) (element_of t.b i) (element_of t.y i) (exponent_of r.s i) (get_or r.sheet.counts i 0))
      (λ i l.
      rw (
        v.b_is i l,
        v.y_is i l,
        g.2 i l,
        sym (get_or-take h.n r.sheet.counts i 0 l) ∙ ap (λ (t : List ℕ). get_or t i 0) g.1 ∙ table_at h.n (λ i. number2 s (at + 4 + 6 * i)) 0 i l,
      ))

  pub counts_are : (r : SheetFields) → Counted s h C at (Ok r) → take h.n r.sheet.counts ≡ said.counts_at s at h.n
  unfolding Counted said.counts_at
  counts_are r g = g.1

  -- ---- the whole record; d: what its out field is to hold
  module _ (round : ℕ) (T : said.Tally) (d : ℕ) where
    pub sheet_fits : sheet_fault s (head_of s h) at round C T d ≡ 0 → at + sheet_length h.n ≤ length s
    unfolding sheet_fault
    sheet_fits e = leb-true (at + sheet_length h.n) (length s) (first_holds _ _ (omega arith) e).0

    pub wrong_frame : (w : Refusal) → Framed s at (sheet_length h.n) RT (get_or s (at + 2) 0) round (Err w) →
        sheet_fault s (head_of s h) at round C T d ≡ refusal_number w
    unfolding Framed sheet_fault
    wrong_frame w f = f _

    module _ (f : Framed s at (sheet_length h.n) RT (get_or s (at + 2) 0) round (Ok tt)) where
      in_frame : sheet_fault s (head_of s h) at round C T d
          ≡ first_fault (sheet_fields s (head_of s h) at C h.n ++ ((tallies s (head_of s h) at T or_else 10) ∷ (eqb (out_at s at) d or_else 11) ∷ []))
      unfolding Framed first_fault sheet_fault
      in_frame = rw (le-leb (at + sheet_length h.n) (length s) f.0, f.1, f.2)

      pub wrong_fields : (w : Refusal) → Counted s h C at (Err w) → sheet_fault s (head_of s h) at round C T d ≡ refusal_number w
      unfolding Counted
      wrong_fields w g = in_frame ∙ g _

      module _ (r : SheetFields) (g : Counted s h C at (Ok r)) where
        pub wrong_tally : tallies s (head_of s h) at T ≡ false → sheet_fault s (head_of s h) at round C T d ≡ 10
        unfolding Counted first_fault
        wrong_tally t = in_frame ∙ g.0 _ ∙ rw t

        -- the last test is left
        pub last_test : tallies s (head_of s h) at T ≡ true → sheet_fault s (head_of s h) at round C T d ≡ first_fault ((eqb (out_at s at) d or_else 11) ∷ [])
        unfolding Counted first_fault
        last_test t = in_frame ∙ g.0 _ ∙ rw t

-- a table filled from the front
pub table_more : (f : ℕ → ℕ) (l : List ℕ) (i x : ℕ) → i < length l → take i l ≡ table i f → x ≡ f i → take (i + 1) (set l i x) ≡ table (i + 1) f
unfolding table
table_more f l i x h t e = rw (add-one i, take-suc-set l i x h, t, e)
