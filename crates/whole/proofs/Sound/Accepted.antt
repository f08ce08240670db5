-- What an accepted board's header holds, and which of its records are sheets.
use Prim.Native.Nat.{ℕ, zero, suc, ◌+◌, ◌≤◌, ◌<◌}
use mathlib.Core.Path.{◌≡◌, ◌∙◌}
use mathlib.Core.Bool.{cond, and-eq-true_iff}
use mathlib.Core.List.{List}
use lib.ListN.{get_or}
use borrow.Author.Tests.{eqb-true}
use Rattle.numbers.specs.Below.{sum_below}
use Rattle.numbers.proofs.Sums.{sum_same, sum_zero}
use Rattle.numbers.proofs.Tests.{by_cases}
use Rattle.rules.specs.Records.{RT, has_mark, is_counted, records_of}
use Rattle.rules.specs.Header.{ranked, Header, header}
use Rattle.rules.specs.Check.{place, kind}
use Rattle.whole.specs.Rules.{HeaderRules}
use Rattle.whole.specs.SecondDemand.{RecordRules, RoundSheetRules}
use Rattle.rules.proofs.Limits.{sizes_bounds}
use Rattle.rules.proofs.Orders.{Orders, Generators, orders_of_test, generators_of_test}

module _ (hash : List ℕ → List ℕ) (s : List ℕ) where
  pub record GoodHeader (h : Header) : Type 0 where
    pub two : 2 ≤ h.n
    pub eight : h.n ≤ 8
    pub one : 1 ≤ h.K
    pub thousand : h.K ≤ 1000
    pub orders : Orders h.n h.K h.group.p h.group.q
    pub generators : Generators h.group.p h.group.q h.group.g0 h.group.g1

  pub header_good : HeaderRules hash ranked s → GoodHeader (header s)
  header_good w =
      let (two, eight, one, thousand) = sizes_bounds ranked (header s).n (header s).K w.sized in
      let o = orders_of_test _ _ _ _ w.ordered in
      record {
        two = two;
        eight = eight;
        one = one;
        thousand = thousand;
        orders = o;
        generators = generators_of_test hash _ _ _ o w.generated;
      }

  module _ (h : Header) where
    -- a ballot's record is marked BA or SH
    record_marked : (a m k : ℕ) → RecordRules hash s h a m k → cond (has_mark s (place s h m k) RT) (records_of (kind s h k) m) 0 ≡ 0
    unfolding records_of
    record_marked a zero k w = let first : get_or s (place s h 0 k) 0 ≡ 66 = eqb-true _ _ ((and-eq-true_iff _ _).0 w.ballot.marked).0 in rw first
    record_marked a (suc m) k w =
        by_cases (is_counted (kind s h k))
        (λ c. let first : get_or s (place s h (suc m) k) 0 ≡ 83 = eqb-true _ _ ((and-eq-true_iff _ _).0 (w c).marked).0 in rw first)
        (λ c. rw c (by_cases (has_mark s (place s h (suc m) k) RT) (λ e. rw e) (λ e. rw e)))

    -- of the records of round m one is marked RT
    abbrev pub Marked : (m : ℕ) → Type 0
    Marked m = sum_below h.K (λ k. cond (has_mark s (place s h m k) RT) (records_of (kind s h k) m) 0) + cond (has_mark s (place s h m h.K) RT) 1 0 ≡ 1

    pub round_marked : (a m out : ℕ) → ((k : ℕ) → k < h.K → RecordRules hash s h a m k) → RoundSheetRules s h m out → Marked m
    round_marked a m out records sheet =
        let none_marked : sum_below h.K (λ k. cond (has_mark s (place s h m k) RT) (records_of (kind s h k) m) 0) ≡ 0 =
        sum_same h.K _ (λ _. 0) (λ k l. record_marked a m k (records k l)) ∙ sum_zero h.K in
        rw (none_marked, sheet.marked)
