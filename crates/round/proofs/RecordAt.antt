-- What a ballot has in a round, at its place: BA in the first round, SH in each further one where it is counted.
use Prim.Native.Nat.{ℕ, zero, suc, ◌+◌, ◌-◌, ◌≤◌, ◌<◌}
use mathlib.Core.Path.{◌≡◌, refl, sym, subst, ap, ◌∙◌}
use mathlib.Core.Bool.{true, false, cond}
use mathlib.Core.List.{List, [], ◌∷◌}
use native.Mathlib.Numerals.{add-one}
use native.Mathlib.Omega.{arith}
use lib.ListN.{length}
use borrow.Author.Tests.{eq-eqb, ne_eqb}
use Rattle.numbers.specs.Below.{sum_below}
use Rattle.sha256.specs.Message.{sha256}
use Rattle.rules.specs.Records.{kind_at, is_counted, ballot_length, shift_length, record_length}
use Rattle.rules.specs.Tests.{first_fault, ◌or_else◌}
use Rattle.rules.specs.Header.{Header}
use Rattle.rules.specs.Ballot.{ballot_tests, ballot_fault}
use Rattle.rules.specs.Shift.{shift_fault}
use Rattle.rules.specs.Check.{position, place, pairs_place, kind, counted_below, counted, some_counted, record_fault}
use Rattle.rules.specs.Answers.{refusal_number}
use Rattle.rules.specs.declared.Refusal.{Refusal}
use Rattle.rules.specs.declared.Refusal.TheVariants.{NoneCounted}
use Rattle.rules.specs.declared.Refused.{Refused}
use Rattle.rules.proofs.Faults.{fault_front, fault_rest}
use Rattle.rules.proofs.RefusalNumbers.{positive}
use Rattle.std.specs.Prelude.{Result, Ok, Err}
use Rattle.std.specs.Result.{MatchResult, IsErrAnd}
use Rattle.std.proofs.lemmas.Result.{err_from_is_err_and}
use Rattle.header.specs.declared.Head.{Head}
use Rattle.header.specs.Heads.{head_of}
use Rattle.records.specs.Passes.{Passes}
use Rattle.round.specs.declared.Round.{Round}
use Rattle.round.specs.declared.Walk.{Walk}
use Rattle.round.specs.Walks.{RecordPasses, RecordReads}

-- whether any ballot is counted: it matters with the last
module _ (s : List ℕ) (H : Header) (k : ℕ) where
  pub not_last : (k + 1 ≡ H.K → ⊥) → some_counted s H k ≡ true
  not_last ne = rw (ne_eqb (k + 1) H.K ne)

  module _ (last : k + 1 ≡ H.K) (c : ℕ) (e : c ≡ counted_below s H k + cond (is_counted (kind s H k)) 1 0) where
    all_counted : c ≡ counted s H
    unfolding sum_below
    all_counted = subst (λ (x : ℕ). c ≡ counted_below s H x) (sym (add-one k) ∙ last) e

    pub some_last : (c ≡ 0 → ⊥) → some_counted s H k ≡ true
    some_last ne = rw (eq-eqb (k + 1) H.K last, ne_eqb (counted s H) 0 (λ z. ne (all_counted ∙ z)))

    pub none_last : c ≡ 0 → some_counted s H k ≡ false
    none_last z = rw (eq-eqb (k + 1) H.K last, eq-eqb (counted s H) 0 (sym all_counted ∙ z))

-- the kind of a ballot is read at its BA
pub kind_is : (s : List ℕ) (H : Header) (k at : ℕ) → at ≡ place s H 0 k → kind_at s at ≡ kind s H k
unfolding position
kind_is s H k at e = ap (λ (x : ℕ). kind_at s x) e

module _ (s : List ℕ) (h : Head) (a k at : ℕ) where
  abbrev H : Header
  H = head_of s h

  pub first_refused : (m next : ℕ) → m ≡ 0 → at ≡ place s H m k → (w : Refusal) → Passes s (ballot_fault sha256 s H at (k + 1)) next (Err w) → RecordPasses s h a m k at (Err w)
  unfolding Passes record_fault ballot_fault
  first_refused zero next z here w p =
      let e = subst (λ (x : ℕ). first_fault (ballot_tests sha256 s H x (k + 1)) ≡ refusal_number w) here p in
      fault_front (ballot_tests sha256 s H (place s H 0 k) (k + 1)) _ (λ y. omega (arith, positive w)) ∙ e
  first_refused (suc m) next z here w p = absurd (omega arith)

  module _ (next : ℕ) (p : Passes s (ballot_fault sha256 s H at (k + 1)) (at + ballot_length h.n (kind_at s at)) (Ok next)) where
    -- the last test is left
    last_test : at ≡ place s H 0 k → record_fault sha256 s H a 0 k ≡ first_fault ((some_counted s H k or_else 19) ∷ [])
    unfolding Passes record_fault ballot_fault
    last_test here =
        fault_rest (ballot_tests sha256 s H (place s H 0 k) (k + 1)) _
        (omega arith, (omega arith, (omega arith, (omega arith, (omega arith, (omega arith, (omega arith, tt)))))))
        (subst (λ (x : ℕ). first_fault (ballot_tests sha256 s H x (k + 1)) ≡ 0) here p.0)

    pub first_passed : (m : ℕ) → m ≡ 0 → at ≡ place s H m k → some_counted s H k ≡ true → RecordPasses s h a m k at (Ok next)
    unfolding Passes record_length first_fault
    first_passed zero z here c = (last_test here ∙ rw c, rw (← kind_is s H k at here) p.1, rw (← kind_is s H k at here) p.2)
    first_passed (suc m) z here c = absurd (omega arith)

    pub first_none : (m : ℕ) → m ≡ 0 → at ≡ place s H m k → some_counted s H k ≡ false → RecordPasses s h a m k at (Err NoneCounted)
    unfolding Passes first_fault
    first_none zero z here c = last_test here ∙ rw c
    first_none (suc m) z here c = absurd (omega arith)

  pub later_none : (m : ℕ) → 0 < m → is_counted (kind s H k) ≡ false → at ≤ length s → RecordPasses s h a m k at (Ok at)
  unfolding Passes record_fault record_length
  later_none zero l c fits = absurd (omega arith)
  later_none (suc m) l c fits = rw c (refl, omega arith, omega arith)

  pub later_shift : (m e before : ℕ) (p : Result ℕ Refusal) → m ≡ suc e → is_counted (kind s H k) ≡ true → at ≡ place s H m k → before ≡ pairs_place s H e k →
      Passes s (shift_fault sha256 s H (h.n - m) at (m + 1) a before (k + 1)) (at + shift_length h.n (h.n - m)) p → RecordPasses s h a m k at p
  unfolding record_fault record_length
  later_shift zero e before p z c here there w = absurd (omega arith)
  later_shift (suc m) e before p z c here there w =
      let same : e ≡ m = omega arith in
      rw c
      (subst (λ (x : ℕ). Passes s (shift_fault sha256 s H (h.n - suc m) x (suc m + 1) a (pairs_place s H m k) (k + 1)) (at + shift_length h.n (h.n - suc m)) p) here
      (subst (λ (x : ℕ). Passes s (shift_fault sha256 s H (h.n - suc m) at (suc m + 1) a x (k + 1)) (at + shift_length h.n (h.n - suc m)) p) (rw same at there) w))

-- a refusal gets its record's number, from a closure that gives it
pub numbered_lem : {P : Refusal → Refused → Type 0} (s : List ℕ) (h : Head) (r : Round) (w : Walk) (at : ℕ) (p : Result ℕ Refusal) (q : Result ℕ Refused) →
    RecordPasses s h r.a r.m w.k at p → MatchResult p (λ x. q ≡ Ok x) (λ e. IsErrAnd q (λ d. P e d)) →
    ((e : Refusal) (d : Refused) → P e d → d ≡ record { refusal = e; «record» = w.number }) → RecordReads s h r w at q
unfolding RecordReads
numbered_lem s h r w at (Ok x) q t c gives = rw c t
numbered_lem s h r w at (Err e) q t c gives = let p = err_from_is_err_and q c in rw (p.1, gives e p.0 p.2) (t, refl)
