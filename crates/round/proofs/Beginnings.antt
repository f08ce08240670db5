-- Where rounds begin, one after another.
use Prim.Native.Nat.{ℕ, suc, ◌≤◌}
use mathlib.Core.Path.{◌≡◌, refl, ap, sym}
use mathlib.Core.Bool.{false}
use mathlib.Core.List.{List}
use native.Mathlib.Numerals.{add-one}
use native.Mathlib.Omega.{arith}
use lib.ListN.{length}
use Rattle.rules.specs.Records.{header_length}
use Rattle.rules.specs.Header.{ranked}
use Rattle.rules.specs.Count.{Standing, closes}
use Rattle.rules.specs.Check.{Position, place, record_number}
use Rattle.rules.proofs.Leaving.{not_last}
use Rattle.rules.proofs.Positions.{position_first}
use Rattle.header.specs.declared.Head.{Head}
use Rattle.header.specs.Heads.{head_of, HeaderKnown}
use Rattle.round.specs.declared.Round.{Round}
use Rattle.round.specs.Rounds.{first_round, next_round, Begins}

pub begins_first : (s : List ℕ) (h : Head) → HeaderKnown ranked s h → Begins s h header_length first_round
begins_first s h p =
    record {
      here = sym (ap (λ (w : Position). w.place) (position_first s (head_of s h)));
      fits = p.long;
      numbered = sym (ap (λ (w : Position). w.number) (position_first s (head_of s h)));
      early = omega (arith, p.low);
      first = λ _. refl;
      later = λ e z. absurd (omega arith);
    }

pub begins_next : (s : List ℕ) (h : Head) (at : ℕ) (r : Round) → Begins s h at r → (st : Standing) (cs : List ℕ) (C : ℕ) → length st.sheets ≡ r.m →
    closes h.n st cs C ≡ false → (next number : ℕ) → next ≡ place s (head_of s h) (suc r.m) 0 → next ≤ length s →
    number ≡ record_number s (head_of s h) (suc r.m) 0 → (a : ℕ) → 1 ≤ a → a ≤ h.n → Begins s h next (next_round r number a at)
begins_next s h at r b st cs C l c next number en fits em a low high =
    record {
      here = rw (add-one r.m) en;
      fits = fits;
      numbered = rw (add-one r.m) em;
      early = omega (arith, b.early, not_last h.n r.m st cs C l c);
      first = λ z. absurd (omega arith);
      later = λ e z. let d : e ≡ r.m = omega arith in (rw d b.here, low, high);
    }
