-- Each audited ballot of an accepted board opens to its shown ranking, and to nothing else.
use Prim.Native.Nat.{ℕ, ◌+◌, ◌-◌, ◌<◌}
use mathlib.Core.Path.{◌≡◌, sym, ◌∙◌}
use mathlib.Core.Logic.{◌⊎◌}
use mathlib.Core.Bool.{true}
use mathlib.Core.List.{List}
use native.Mathlib.Omega.{arith}
use lib.Dec.{eqb}
use lib.ListN.{length, get_or}
use lib.Seq.{ext_get_or}
use borrow.Author.Tests.{eqb-true}
use Rattle.numbers.proofs.Sums.{some_picked}
use Rattle.numbers.proofs.Tests.{by_cases}
use Rattle.group.specs.Arithmetic.{pow_mod}
use Rattle.group.specs.Elements.{Parameters}
use Rattle.rules.specs.Records.{is_audited}
use Rattle.rules.specs.Count.{is_ranking}
use Rattle.rules.specs.Header.{Header, header}
use Rattle.rules.specs.Audit.{value_of}
use Rattle.rules.specs.Check.{position, place, kind}
use Rattle.rules.specs.Openings.{Opening, Counted}
use Rattle.rules.proofs.Elements.{paired_is}
use Rattle.rules.proofs.Orders.{Orders, Generators, bit_below, same_pair}
use Rattle.jobs.proofs.Rankings.{ranking_length, row_one}
use Rattle.whole.specs.Rules.{ShownRules}
use Rattle.whole.specs.SecondDemand.{EveryRuleHolds}
use Rattle.whole.specs.Audited.{exponent_of, ranking_shown, PairOpens, OpensAsShown, Audited}
use Rattle.whole.proofs.SecondDemand.{second_demand}
use Rattle.whole.proofs.Sound.Accepted.{GoodHeader, header_good}
use Rattle.whole.proofs.Complete.{written_shown}

-- a pair opens to one x and one v
one_opening : {n K : ℕ} (g : Parameters) → Orders n K g.p g.q → Generators g.p g.q g.g0 g.g1 → (b y x v x' v' : ℕ) →
    Opening g b y x v → Opening g b y x' v' → (x ≡ x') × (v ≡ v')
unfolding pow_mod
one_opening g o w b y x v x' v' a a' =
    same_pair o w x x' v v' a.x_below a'.x_below a.v_below a'.v_below
    (sym (a.first ∙ paired_is g x v) ∙ a'.first ∙ paired_is g x' v') (sym a.second ∙ a'.second)

-- a list of n places that has its 1 where a ranking has it is the ranking
values_told : (n : ℕ) (r list : List ℕ) → is_ranking n r ≡ true → length list ≡ n → ((i j : ℕ) → i < n → j < n → value_of list i j ≡ value_of r i j) → list ≡ r
values_told n r list ranking long same = ext_get_or 0 list r (long ∙ sym (ranking_length n r ranking)) (λ i l. at i (omega arith))
  where
    at : (i : ℕ) → i < n → get_or list i 0 ≡ get_or r i 0
    at i l =
        let w = (some_picked n (λ j. eqb (get_or r i 0) (j + 1))).0 (omega (arith, row_one n r ranking i l)) in
        let j = w.0 in
        eqb-true _ _ (by_cases (eqb (get_or list i 0) (j + 1)) (λ e. e) (λ e. absurd (omega (arith, rw (e, w.2) at (same i j l w.1))))) ∙ sym (eqb-true _ _ w.2)

module _ (hash : List ℕ → List ℕ) (s : List ℕ) (rounds : ℕ) (order : List ℕ) (winner : ℕ) (w : EveryRuleHolds hash s rounds order winner) where
  abbrev h : Header
  h = header s

  good : GoodHeader hash s h
  good = header_good hash s w.head

  first : 0 < rounds
  first = omega (arith, w.rounds_are)

  either_kind : (k : ℕ) → k < h.K → (kind s h k ≡ 0) ⊎ (kind s h k ≡ 1)
  unfolding position
  either_kind k l = (w.records 0 k first l).ballot.kinded

  one_counted : (k : ℕ) × (k < h.K) × Counted s k
  one_counted = (w.records 0 (h.K - 1) first (omega (arith, good.one))).some_counted_lem (omega (arith, good.one))

  shown_kept : (k : ℕ) → k < h.K → is_audited (kind s h k) ≡ true → ShownRules s h (place s h 0 k)
  unfolding position
  shown_kept k l e = (w.records 0 k first l).ballot.shown e

  module _ (k : ℕ) (l : k < h.K) (e : is_audited (kind s h k) ≡ true) where
    opens : (i j : ℕ) → i < h.n → j < h.n → PairOpens s k i j (exponent_of s k i j) (value_of (ranking_shown s k) i j)
    opens i j a b =
        let v = shown_kept k l e in
        record { x_below = v.small i j a b; v_below = bit_below good.orders (eqb (get_or (ranking_shown s k) i 0) (j + 1)); first = v.opens_b i j a b; second = v.opens_y i j a b }

    alone : (i j x v : ℕ) → i < h.n → j < h.n → PairOpens s k i j x v → (x ≡ exponent_of s k i j) × (v ≡ value_of (ranking_shown s k) i j)
    alone i j x v a b o = one_opening h.group good.orders good.generators _ _ x v _ _ o (opens i j a b)

    opens_as_shown_lem : OpensAsShown s k
    opens_as_shown_lem =
        let ranking = (shown_kept k l e).ranking in
        record {
          ranking = ranking;
          opens = opens;
          to_ranking = record { a_row_each = ranking_length h.n (ranking_shown s k) ranking; pairs = λ i j a b. (exponent_of s k i j, opens i j a b) };
          alone = alone;
          no_other = λ list o. values_told h.n (ranking_shown s k) list ranking o.a_row_each (λ i j a b. let w = o.pairs i j a b in (alone i j w.0 (value_of list i j) a b w.1).1);
        }

pub audited : (hash : List ℕ → List ℕ) → Audited hash
audited hash =
    record {
      either = λ s a. either_kind hash s _ _ _ (((second_demand hash).accepted_iff s _ _ _).0 a.3);
      some_counted_lem = λ s a. one_counted hash s _ _ _ (((second_demand hash).accepted_iff s _ _ _).0 a.3);
      opens_as_shown_lem = λ s a. opens_as_shown_lem hash s _ _ _ (((second_demand hash).accepted_iff s _ _ _).0 a.3);
      written = written_shown hash;
    }
