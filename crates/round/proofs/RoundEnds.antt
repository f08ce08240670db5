-- What a round comes to.
use Prim.Native.Nat.{ℕ, suc, ◌+◌}
use mathlib.Core.Path.{◌≡◌, refl, sym, ap, subst, ◌∙◌}
use mathlib.Core.List.{List}
use mathlib.Core.Option.{none}
use native.Mathlib.Omega.{arith}
use lib.ListN.{length}
use borrow.Author.Tests.{eq-eqb, ne_eqb}
use Rattle.sha256.specs.Message.{sha256}
use Rattle.rules.specs.Records.{sheet_length}
use Rattle.rules.specs.Tests.{fault_below}
use Rattle.rules.specs.Header.{Header}
use Rattle.rules.specs.Sheet.{counts_at, sheet_fault}
use Rattle.rules.specs.Check.{refused, position, place, record_number, round_verdict, record_fault, round_sheet_fault, counts, counted, due}
use Rattle.rules.specs.Answers.{refusal_number}
use Rattle.rules.specs.declared.Refusal.{Refusal}
use Rattle.rules.specs.declared.Refusal.TheVariants as R
use Rattle.rules.specs.declared.Refused.{Refused}
use Rattle.count.specs.declared.Count.{Count}
use Rattle.count.specs.State.{standing_of}
use Rattle.header.specs.declared.Head.{Head}
use Rattle.std.specs.Prelude.{Result, Ok, Err}
use Rattle.std.specs.Result.{MatchResult, IsErrAnd}
use Rattle.std.proofs.lemmas.Result.{err_from_is_err_and}
use Rattle.sheets.specs.declared.Outcome.TheVariants as O
use Rattle.sheets.specs.declared.Step.{Step}
use Rattle.header.specs.Heads.{head_of}
use Rattle.sheets.specs.Sheets.{Comes, Stepped, SheetReads}
use Rattle.sheets.proofs.SheetTable.{sheet_fits}
use Rattle.round.specs.declared.RoundOutcome.TheVariants.{Open, Closed}
use Rattle.round.specs.Outcomes.{RecordsReads, RoundComes, Rounded}
use Rattle.rules.proofs.Positions.{place_round, number_next}
use Rattle.rules.proofs.RefusalNumbers.{positive}

-- from what the ballots' records and the sheet come to
module _ (s : List ℕ) (h : Head) (c : Count) (m a : ℕ) where
  abbrev H : Header
  H = head_of s h

  pub by_records : (e : Refused) → RecordsReads s h a m (Err e) → Rounded s h c m a (Err e)
  unfolding RecordsReads Rounded round_verdict
  by_records e f = λ after. rw (f.2, round_verdict, f.3)

  -- the sheet's counts and fault, and the place where it ends
  abbrev pub Stepping : Result Step Refusal → Type 0
  Stepping = Stepped h.n (counted s H) c (counts s H m) (round_sheet_fault s H m (due h.n (counted s H) (standing_of h.n c) (counts s H m))) (place s H m h.k + sheet_length h.n)

  -- from what the sheet at its place comes to
  pub stepping : (there C : ℕ) (o : Result Step Refusal) → there ≡ place s H m h.k → C ≡ counted s H → c.gone.outs ≡ m →
      SheetReads s h c C (position s H m h.k).tally there o → Stepping o
  stepping there C o e few x t =
      let P : (at C round : ℕ) → Type 0 = λ at C round.
      Stepped h.n C c (counts_at s at h.n) (sheet_fault s H at (round + 1) C (position s H m h.k).tally (due h.n C (standing_of h.n c) (counts_at s at h.n))) (at + sheet_length h.n) o in
      subst (λ (at : ℕ). P at (counted s H) m) e (subst (λ (C : ℕ). P there C m) few (subst (λ (round : ℕ). P there C round) x t))

  -- its refusal gets a number, from a closure that gives it
  pub numbered : {P : Refusal → Refused → Type 0} (sheet : Result Step Refusal) (number : ℕ) (o : Result Step Refused) → Stepping sheet →
      MatchResult sheet (λ x. o ≡ Ok x) (λ w. IsErrAnd o (λ e. P w e)) → ((w : Refusal) (e : Refused) → P w e → e ≡ record { refusal = w; «record» = number }) →
      MatchResult o (λ x. Stepping (Ok x)) (λ e. Stepping (Err e.refusal) × (e.record ≡ number))
  numbered (Ok x) number o t q gives = rw q t
  numbered (Err w) number o t q gives = let p = err_from_is_err_and o q in rw (p.1, gives w p.0 p.2) (t, refl)

  module _ (e : fault_below h.k (record_fault sha256 s H a m) ≡ none) where
    pub by_sheet : (w : Refused) → Stepping (Err w.refusal) → w.record ≡ record_number s H m h.k → Rounded s h c m a (Err w)
    unfolding Rounded Stepped round_verdict
    by_sheet w t p = λ after. rw (e, round_verdict, t, ne_eqb (refusal_number w.refusal) 0 (λ z. omega (arith, positive w.refusal)), p)

    module _ (step : Step) (t : Stepping (Ok step)) where
      -- the sheet closes the board
      module _ (x : ℕ) (closed : step.outcome ≡ O.Closed x) where
        pub by_end : length s ≡ step.next → RoundComes s h c m a (Closed x) step.count
        unfolding RoundComes Comes Stepped round_verdict
        by_end l =
            let o = rw closed at t.2 in
            (λ after. rw (e, round_verdict, t.0, o.0, eq-eqb (length s) (place s H (suc m) 0) (l ∙ t.1 ∙ sym (place_round s H m)), o.1), o.2, o.3, o.4)

        pub by_rest : (shown : ℕ) → (length s ≡ step.next → ⊥) → shown ≡ record_number s H m h.k + 1 → Rounded s h c m a (Err (record { refusal = R.Remain; «record» = shown }))
        unfolding Rounded Comes Stepped round_verdict
        by_rest shown l p =
            let o = rw closed at t.2 in
            λ after. rw (e, round_verdict, t.0, o.0, ne_eqb (length s) (place s H (suc m) 0) (λ z. l (z ∙ place_round s H m ∙ sym t.1)), p) (ap (λ (x : ℕ). refused 12 x) (number_next s H m))

      pub by_next : (x number : ℕ) → step.outcome ≡ O.Open x → number ≡ record_number s H m h.k + 1 → RoundComes s h c m a (Open x step.next number) step.count
      unfolding RoundComes Comes Stepped round_verdict
      by_next x number opened p =
          let o = rw opened at t.2 in
          (λ after. rw (e, round_verdict, t.0, o.0), o.0, t.1 ∙ sym (place_round s H m), rw t.1 (sheet_fits s h _ _ _ _ _ t.0), p ∙ sym (number_next s H m), o.1, o.2, o.3, o.4, o.5)
