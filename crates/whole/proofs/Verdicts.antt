-- One round as the checker reads it, by what its records and its sheet hold.
use Prim.Native.Nat.{ℕ, suc, ◌<◌}
use mathlib.Core.Path.{◌≡◌}
use mathlib.Core.Bool.{cond}
use mathlib.Core.List.{List}
use native.Mathlib.Omega.{arith}
use borrow.Author.Tests.{ne_eqb}
use Rattle.rules.specs.Count.{Standing, closes, leaves, next}
use Rattle.rules.specs.Header.{Header}
use Rattle.rules.specs.Check.{refused, record_number, counted, counts, due, ending, record_fault, round_sheet_fault, round_verdict, check_from}
use Rattle.rules.proofs.Faults.{no_fault, fault_at}

module _ (hash : List ℕ → List ℕ) (s : List ℕ) (h : Header) (fuel : ℕ) (st : Standing) (m a : ℕ) where
  -- a record has a fault, and none before it
  pub in_a_record : (k : ℕ) → k < h.K → ((j : ℕ) → j < k → record_fault hash s h a m j ≡ 0) → 0 < record_fault hash s h a m k →
      check_from hash s h (suc fuel) st m a ≡ refused (record_fault hash s h a m k) (record_number s h m k)
  unfolding check_from round_verdict
  in_a_record k l earlier bad = rw (fault_at h.K (record_fault hash s h a m) k l earlier (λ z. omega arith), round_verdict)

  module _ (good : (k : ℕ) → k < h.K → record_fault hash s h a m k ≡ 0) where
    -- the sheet has a fault
    pub in_the_sheet : 0 < round_sheet_fault s h m (due h.n (counted s h) st (counts s h m)) →
        check_from hash s h (suc fuel) st m a ≡ refused (round_sheet_fault s h m (due h.n (counted s h) st (counts s h m))) (record_number s h m h.K)
    unfolding check_from round_verdict
    in_the_sheet bad =
        rw (no_fault h.K (record_fault hash s h a m) good, round_verdict) (rw (ne_eqb (round_sheet_fault s h m (due h.n (counted s h) st (counts s h m))) 0 (λ z. omega arith)))

    -- neither has
    pub round_read : round_sheet_fault s h m (due h.n (counted s h) st (counts s h m)) ≡ 0 →
        check_from hash s h (suc fuel) st m a
        ≡ cond (closes h.n st (counts s h m) (counted s h)) (ending s h st m) (check_from hash s h fuel (next h.n st (counts s h m)) (suc m) (leaves h.n st (counts s h m)))
    unfolding check_from round_verdict
    round_read f = rw (no_fault h.K (record_fault hash s h a m) good, round_verdict) (rw f)
