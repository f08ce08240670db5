-- The ballots' records of a round, read one after another.
use Prim.Native.Nat.{ℕ, zero, suc, ◌+◌, ◌*◌, ◌-◌, ◌^◌, ◌≤◌, ◌<◌}
use mathlib.Core.Path.{◌≡◌, refl, sym, ap, ap₂, ◌∙◌}
use mathlib.Core.Bool.{true, cond}
use mathlib.Core.List.{List}
use native.Mathlib.Nat.{add-zero, mul-le-mul_right}
use native.Mathlib.Numerals.{add-one}
use native.Mathlib.Omega.{arith}
use lib.ListN.{length}
use borrow.Author.Count.{below_more}
use borrow.Author.Tests.{eqb-true, eqb-false}
use Rattle.numbers.specs.Below.{sum_below}
use Rattle.numbers.proofs.Tests.{by_cases}
use Rattle.rules.specs.Records.{kind_at, is_counted, records_of, pairs_from, ballot_length, record_length}
use Rattle.rules.specs.Header.{ranked, Header}
use Rattle.rules.specs.Check.{Position, position, place, record_number, kind, counted_below, counted}
use Rattle.rules.proofs.Faults.{no_fault, fault_at}
use Rattle.rules.proofs.Positions.{holds_pairs, position_first, position_record, place_record, place_round, place_up, round_within, round_later, earlier_fits, number_first, number_later, few_counted, no_row_lem}
use Rattle.rules.proofs.RefusalNumbers.{positive}
use Rattle.std.specs.Prelude.{Ok, Err}
use Rattle.header.specs.declared.Head.{Head}
use Rattle.rules.specs.declared.Refused.{Refused}
use Rattle.records.specs.Passes.{Passes}
use Rattle.sheets.specs.declared.tally.Tally.{Tally}
use Rattle.header.specs.Heads.{head_of, HeaderKnown}
use Rattle.sheets.specs.Tallies.{Tallied}
use Rattle.sheets.proofs.Products.{tallied_fewer}
use Rattle.round.specs.declared.Round.{Round}
use Rattle.round.specs.declared.Walk.{Walk}
use Rattle.round.specs.Rounds.{Begins}
use Rattle.round.specs.Walks.{Walked, Starts, RecordPasses, RecordReads, TallyAfter}
use Rattle.round.specs.Outcomes.{RecordsReads}
use Rattle.round.proofs.RecordAt.{kind_is}

-- records have small numbers
pub number_small : (s : List ℕ) (h : Head) → HeaderKnown ranked s h → (m k number : ℕ) → m + 1 < h.n → k ≤ h.k → number ≡ record_number s (head_of s h) m k → number + 2 < 2 ^ 64
number_small s h known zero k number early few e = omega (arith, number_first s (head_of s h) k, known.few)
number_small s h known (suc m) k number early few e =
    let C = counted s (head_of s h) in
    let up : m * (C + 1) ≤ 8 * (C + 1) = mul-le-mul_right (C + 1) (omega (arith, known.high)) in
    omega (arith, number_later s (head_of s h) m k, few_counted s (head_of s h) k, few_counted s (head_of s h) h.k, known.few)

module _ (s : List ℕ) (h : Head) (known : HeaderKnown ranked s h) (r : Round) where
  abbrev H : Header
  H = head_of s h

  pub walked_first : (at : ℕ) → Begins s h at r → (w : Walk) → Starts h r w → Walked s h r at w
  unfolding sum_below
  walked_first at b w t =
      record {
        few = omega (arith, t.none);
        here = rw t.none b.here;
        fits = b.fits;
        numbered = rw t.none (t.numbered ∙ b.numbered);
        first = λ z. t.earlier ∙ b.first z;
        earlier = λ e z. rw t.none (t.earlier ∙ (b.later e z).0);
        ballot_here = rw t.none (t.ballot ∙ sym (ap (λ (p : Position). p.place) (position_first s H)));
        ballot_fits = omega (arith, t.ballot, known.long);
        tallied = rw (t.none, no_row_lem s H r.m) (tallied_fewer known.high t.no_row_lem);
        counted = rw t.none t.uncounted;
        sound = λ j l. absurd (omega (arith, t.none));
      }

  module _ (at : ℕ) (w : Walk) (v : Walked s h r at w) where
    pub kind_read : (x : ℕ) → x ≡ kind_at s w.ballot → x ≡ kind s H w.k
    kind_read x e = e ∙ kind_is s H w.k w.ballot v.ballot_here

    -- the counted ones with the ballot that is next
    pub counted_with : (x : ℕ) → x ≡ w.tally.ballots + cond (is_counted (kind_at s w.ballot)) 1 0 → x ≡ counted_below s H w.k + cond (is_counted (kind s H w.k)) 1 0
    counted_with x e = e ∙ ap₂ (λ (x y : ℕ). x + cond (is_counted y) 1 0) v.counted (kind_is s H w.k w.ballot v.ballot_here)

    pub few_ballots : w.k < h.k → w.tally.ballots < 1000
    few_ballots l = omega (arith, v.counted, few_counted s H w.k, known.few)

    -- the pairs of a counted ballot's record a round earlier stand on the board
    pub earlier_pairs : (e : ℕ) → r.m ≡ suc e → w.k < h.k → is_counted (kind s H w.k) ≡ true → pairs_from e w.before + 8 * ((h.n - e) * h.n) ≤ length s
    earlier_pairs e z l c =
        let here : at ≡ place s H (suc e) w.k = v.here ∙ rw z in
        rw (v.earlier e z) (omega (arith, earlier_fits s H e w.k l c, round_within s H (suc e) w.k, v.fits))

    pub earlier_small : w.before ≤ length s
    earlier_small = go r.m refl
      where
        go : (m : ℕ) → r.m ≡ m → w.before ≤ length s
        go zero z = omega (arith, v.first z)
        go (suc e) z =
            let here : at ≡ place s H (suc e) w.k = v.here ∙ rw z in
            omega (arith, v.earlier e z, place_up s H e w.k h.k v.few, place_round s H e, round_within s H (suc e) w.k, v.fits)

    -- the first row of a counted ballot's record
    pub row_fits : r.m + 1 < h.n → is_counted (kind s H w.k) ≡ true → at + record_length h.n (kind s H w.k) r.m ≤ length s →
        pairs_from r.m (at) + 8 * h.n ≤ length s
    row_fits early c f =
        let up : 1 * h.n ≤ (h.n - r.m) * h.n = mul-le-mul_right h.n (omega arith) in
        omega (arith, holds_pairs h.n (kind s H w.k) r.m (at) c)

    module _ (next : ℕ) (p : RecordPasses s h r.a r.m w.k (at) (Ok next)) (l : w.k < h.k) where
      -- where the next ballot's BA stands
      ballot_next : (long : ℕ) → long ≡ ballot_length h.n (kind s H w.k) → w.ballot + long ≡ place s H 0 (w.k + 1)
      unfolding record_length
      ballot_next long e = rw (add-one w.k, e, v.ballot_here) (sym (place_record s H 0 w.k))

      ballot_on : place s H 0 (w.k + 1) ≤ length s
      unfolding Passes
      ballot_on = go r.m refl
        where
          go : (m : ℕ) → r.m ≡ m → place s H 0 (w.k + 1) ≤ length s
          go zero z =
              let here : at ≡ place s H 0 w.k = v.here ∙ rw z in
              let fits : at + record_length h.n (kind s H w.k) 0 ≤ length s = rw z at p.2 in
              rw (add-one w.k) (omega (arith, place_record s H 0 w.k))
          go (suc e) z =
              let here : at ≡ place s H (suc e) w.k = v.here ∙ rw z in
              omega (arith, place_up s H 0 (w.k + 1) h.k (omega arith), round_later s H e, round_within s H (suc e) w.k, v.fits)

      -- the products of the next
      tally_next : (t : Tally) → TallyAfter s h r.m (kind s H w.k) (at) w.tally t →
          Tallied h.setup.group.p h.n t (position s H r.m (w.k + 1)).tally × (t.ballots ≡ counted_below s H (w.k + 1))
      unfolding sum_below
      tally_next t q =
          by_cases (is_counted (kind s H w.k))
          (λ c.
          let z = eqb-true (kind s H w.k) 0 c in
          rw (add-one w.k, position_record s H r.m w.k, c) (rw v.here at (q.row z _ v.tallied), q.more z ∙ ap (λ (x : ℕ). x + 1) v.counted))
          (λ c.
          let e = q.same (eqb-false (kind s H w.k) 0 c) in
          rw (add-one w.k, position_record s H r.m w.k, c, e) (v.tallied, v.counted ∙ sym (add-zero _)))

      pub walked_more : (size more long : ℕ) (t : Tally) → (r.m ≡ 0 → size ≡ 0) → ((e : ℕ) → r.m ≡ suc e → size ≡ record_length h.n (kind s H w.k) e) →
          more ≡ records_of (kind s H w.k) r.m → long ≡ ballot_length h.n (kind s H w.k) → TallyAfter s h r.m (kind s H w.k) (at) w.tally t →
          Walked s h r next (record { k = w.k + 1; number = w.number + more; before = w.before + size; ballot = w.ballot + long; tally = t })
      unfolding Passes
      walked_more size more long t none there em el q =
          record {
            few = omega arith;
            here = p.1 ∙ rw (v.here, add-one w.k) (sym (place_record s H r.m w.k));
            fits = omega (arith, p.1, p.2);
            numbered = rw (v.numbered, em, add-one w.k) (sym (ap (λ (x : Position). x.number) (position_record s H r.m w.k)));
            first = λ z. omega (arith, v.first z, none z);
            earlier = λ e z. rw (v.earlier e z, there e z, add-one w.k) (sym (place_record s H e w.k));
            ballot_here = ballot_next long el;
            ballot_fits = omega (arith, ballot_next long el, ballot_on);
            tallied = (tally_next t q).0;
            counted = (tally_next t q).1;
            sound = below_more _ _ v.sound p.0;
          }

    pub records_refused : w.k < h.k → (e : Refused) → RecordReads s h r w at (Err e) → RecordsReads s h r.a r.m (Err e)
    unfolding RecordsReads RecordReads Passes
    records_refused l e f =
        (w.k, l, rw (← f.0) (fault_at h.k _ w.k l v.sound (λ z. omega (arith, positive e.refusal))), f.1 ∙ v.numbered)

    pub records_read : h.k ≤ w.k → RecordsReads s h r.a r.m (Ok (record { next = at; number = w.number; tally = w.tally }))
    unfolding RecordsReads
    records_read l =
        let e : w.k ≡ h.k = omega (arith, v.few) in
        (no_fault _ _ (λ j b. v.sound j (omega arith)), rw e at v.here, v.fits, rw e at v.numbered, rw e at v.tallied, rw e at v.counted)
