-- A statement in other words.
use Prim.Native.Nat.{ℕ}
use mathlib.Core.Path.{◌≡◌}
use mathlib.Core.Bool.{true, false}
use mathlib.Core.List.{List}
use Rattle.sha256.specs.declared.Hasher.{Hasher}
use Rattle.group.specs.Elements.{Parameters}
use Rattle.rules.specs.Proofs.{Statement, Commitments}
use Rattle.group.specs.Arithmetic.{pow_mod}
use Rattle.jobs.specs.Prover.{false_commitment, true_commitments, false_commitments}
use Rattle.proving.specs.Plans.{drafted, Stated}

module _ (r : ℕ) (o o' : List ℕ) (h k : Hasher) where
  pub stated_true : (g : Parameters) (st : Statement) (e x t1 t2 : ℕ) → t1 ≡ pow_mod g.p g.g0 x → t2 ≡ pow_mod g.p g.g1 x →
      Stated st (record { t1 = t1; t2 = t2 }) r o o' h k → Stated st (drafted g st true e x) r o o' h k
  unfolding drafted true_commitments
  stated_true g st e x t1 t2 f f' s = rw (f, f') at s

  pub stated_false : (g : Parameters) (st : Statement) (e x t1 t2 : ℕ) → t1 ≡ false_commitment g g.g0 st.left e x → t2 ≡ false_commitment g g.g1 st.right e x →
      Stated st (record { t1 = t1; t2 = t2 }) r o o' h k → Stated st (drafted g st false e x) r o o' h k
  unfolding drafted false_commitments
  stated_false g st e x t1 t2 f f' s = rw (f, f') at s

  -- of a statement that is the claim's
  pub stated_as : (t : Statement → Commitments) (s s' : Statement) → s ≡ s' → Stated s (t s) r o o' h k → Stated s' (t s') r o o' h k
  stated_as t s s' w p = rw w at p
