-- Laws of the first fault: of a list of tests, and of the records of a round.
use Prim.Native.Nat.{ℕ, zero, suc, ◌<◌}
use mathlib.Core.Path.{◌≡◌, refl, sym, ap, ◌∙◌}
use mathlib.Core.Logic.{◌⊎◌, inl, inr, ⊎_elim}
use mathlib.Core.Bool.{Bool, true, false}
use mathlib.Core.List.{List, [], ◌∷◌, ◌++◌}
use mathlib.Core.Option.{Option, none, some}
use native.Mathlib.Nat.{not-suc-le-zero, eq-or-lt_of_le, le_of_suc-le-suc}
use native.Mathlib.Omega.{arith}
use lib.Dec.{eqb}
use borrow.Author.Tests.{eqb-true, eqb-false, ne_eqb}
use Rattle.numbers.proofs.Search.{extend}
use Rattle.numbers.proofs.Tests.{by_cases}
use Rattle.rules.specs.Tests.{Test, first_fault, fault_below}

pub none_some : {A : Type 0} {a : A} → none ≡ some a → ⊥
none_some e = let z : ◌≡◌ {A = ℕ} 0 1 = cc in omega arith

some_none : {A : Type 0} {a : A} → some a ≡ none → ⊥
some_none e = let z : ◌≡◌ {A = ℕ} 0 1 = cc in omega arith

pub first_holds : (t : Test) (ts : List Test) → 0 < t.refusal → first_fault (t ∷ ts) ≡ 0 → (t.holds ≡ true) × (first_fault ts ≡ 0)
unfolding first_fault
first_holds t ts l h = go t.holds refl
  where
    go : (b : Bool) → t.holds ≡ b → (t.holds ≡ true) × (first_fault ts ≡ 0)
    go true e = (e, simp e at h)
    go false e = let z : t.refusal ≡ 0 = simp e at h in absurd (omega arith)

pub all_hold : (t : Test) (ts : List Test) → t.holds ≡ true → first_fault ts ≡ 0 → first_fault (t ∷ ts) ≡ 0
unfolding first_fault
all_hold t ts h e = rw h e

-- where no number has a fault, each has none
pub none_faulty : (K : ℕ) (f : ℕ → ℕ) → fault_below K f ≡ none → (k : ℕ) → k < K → f k ≡ 0
unfolding fault_below
none_faulty zero f e = λ k l. absurd (not-suc-le-zero l)
none_faulty (suc K) f e = go (fault_below K f) (eqb (f K) 0) refl refl (none_faulty K f)
  where
    go : (v : Option (ℕ × ℕ)) (b : Bool) → fault_below K f ≡ v → eqb (f K) 0 ≡ b →
        (fault_below K f ≡ none → (k : ℕ) → k < K → f k ≡ 0) → (k : ℕ) → k < suc K → f k ≡ 0
    go (some w) b ev eb ih = absurd (some_none (rw (ev, fault_below) at e))
    go none false ev eb ih = absurd (some_none (rw (ev, eb, fault_below) at e))
    go none true ev eb ih = extend (λ (k : ℕ). f k ≡ 0) K (ih ev) (eqb-true (f K) 0 eb)

pub no_fault : (K : ℕ) (f : ℕ → ℕ) → ((k : ℕ) → k < K → f k ≡ 0) → fault_below K f ≡ none
unfolding fault_below
no_fault zero f e = refl
no_fault (suc K) f e = rw (no_fault K f (λ k l. e k (omega arith)), e K (omega arith))

-- the first that has a fault
pub record Faulty (K : ℕ) (f : ℕ → ℕ) (w : ℕ × ℕ) : Type 0 where
  pub below : w.0 < K
  pub fault : w.1 ≡ f w.0
  pub some_fault : f w.0 ≡ 0 → ⊥
  pub earlier : (k : ℕ) → k < w.0 → f k ≡ 0

pub first_faulty : (K : ℕ) (f : ℕ → ℕ) (w : ℕ × ℕ) → fault_below K f ≡ some w → Faulty K f w
unfolding fault_below
first_faulty zero f w e = absurd (none_some e)
first_faulty (suc K) f w e = go (fault_below K f) (eqb (f K) 0) refl refl (first_faulty K f w)
  where
    go : (v : Option (ℕ × ℕ)) (b : Bool) → fault_below K f ≡ v → eqb (f K) 0 ≡ b → (fault_below K f ≡ some w → Faulty K f w) → Faulty (suc K) f w
    go (some v) b ev eb ih =
        let o = ih (ev ∙ rw (ev, fault_below) at e) in
        record { below = omega (arith, o.below); fault = o.fault; some_fault = o.some_fault; earlier = o.earlier }
    go none true ev eb ih = absurd (none_some (rw (ev, eb, fault_below) at e))
    go none false ev eb ih =
        let q : some (K, f K) ≡ some w = rw (ev, eb, fault_below) at e in
        let q0 : K ≡ w.0 = cc in
        let q1 : f K ≡ w.1 = cc in
        record { below = omega arith; fault = rw (← q0) (sym q1); some_fault = rw (← q0) (eqb-false (f K) 0 eb); earlier = rw (← q0) (none_faulty K f ev) }

pub fault_at : (K : ℕ) (f : ℕ → ℕ) (k : ℕ) → k < K → ((j : ℕ) → j < k → f j ≡ 0) → (f k ≡ 0 → ⊥) → fault_below K f ≡ some (k, f k)
unfolding fault_below
fault_at zero f k l earlier bad = absurd (not-suc-le-zero l)
fault_at (suc K) f k l earlier bad =
    ⊎_elim
    (λ (e : k ≡ K). rw (no_fault K f (λ j b. earlier j (omega arith)), ne_eqb (f K) 0 (λ z. bad (ap f e ∙ z)), ← e))
    (λ (b : k < K). rw (fault_at K f k b earlier bad))
    (eq-or-lt_of_le (le_of_suc-le-suc l))

pub faulty_or_none : (K : ℕ) (f : ℕ → ℕ) → ((w : ℕ × ℕ) × Faulty K f w) ⊎ ((k : ℕ) → k < K → f k ≡ 0)
faulty_or_none K f = go (fault_below K f) refl
  where
    go : (v : Option (ℕ × ℕ)) → fault_below K f ≡ v → ((w : ℕ × ℕ) × Faulty K f w) ⊎ ((k : ℕ) → k < K → f k ≡ 0)
    go (some w) e = inl (w, first_faulty K f w e)
    go none e = inr (none_faulty K f e)

pub fault_none : first_fault [] ≡ 0
unfolding first_fault
fault_none = refl

-- what holds of 0, and of the refusal of each test that fails, holds of the first fault
pub fault_cases : (P : ℕ → Type 0) (t : Test) (ts : List Test) → (t.holds ≡ false → P t.refusal) → (t.holds ≡ true → P (first_fault ts)) → P (first_fault (t ∷ ts))
unfolding first_fault
fault_cases P t ts here later = by_cases t.holds (λ e. rw e (later e)) (λ e. rw e (here e))

pub fault_is : (P : ℕ → Type 0) (t : Test) (ts : List Test) → (t.holds ≡ false → P t.refusal) → P (first_fault ts) → P (first_fault (t ∷ ts))
fault_is P t ts here later = fault_cases P t ts here (λ _. later)

-- where the first tests hold, the fault is that of the rest
abbrev pub Positive : List Test → Type 0
Positive [] = Unit
Positive (t ∷ ts) = (0 < t.refusal) × Positive ts

pub fault_rest : (ts us : List Test) → Positive ts → first_fault ts ≡ 0 → first_fault (ts ++ us) ≡ first_fault us
unfolding first_fault
fault_rest [] us pos e = refl
fault_rest (t ∷ ts) us pos e = let w = first_holds t ts pos.0 e in rw w.0 (fault_rest ts us pos.1 w.1)

-- the fault of the first tests is that of all
pub fault_front : (ts us : List Test) → (first_fault ts ≡ 0 → ⊥) → first_fault (ts ++ us) ≡ first_fault ts
unfolding first_fault
fault_front [] us bad = absurd (bad refl)
fault_front (t ∷ ts) us bad = go t.holds refl (fault_front ts us)
  where
    go : (b : Bool) → t.holds ≡ b → ((first_fault ts ≡ 0 → ⊥) → first_fault (ts ++ us) ≡ first_fault ts) → first_fault (t ∷ (ts ++ us)) ≡ first_fault (t ∷ ts)
    go true e ih = rw e (ih (λ z. bad (rw e z)))
    go false e ih = rw e
