-- The commitments of a statement, a base at a time.
use Prim.Native.Nat.{ℕ}
use mathlib.Core.Path.{◌≡◌}
use mathlib.Core.Bool.{cond}
use lib.Dec.{eqb}
use Rattle.numbers.proofs.Tests.{by_cases}
use Rattle.group.specs.Arithmetic.{pow_mod}
use Rattle.group.specs.Elements.{Parameters}
use Rattle.jobs.specs.Prover.{Prover, nonce, false_challenge, false_response, false_commitment, true_commitments, false_commitments, committed}

module _ (g : Parameters) (pr : Prover) where
  unfoldable pub commitment : (base side l i : ℕ) → ℕ
  commitment base side l i =
      cond (eqb l pr.known) (pow_mod g.p base (nonce pr i)) (false_commitment g base side (false_challenge pr l) (false_response pr l i))

  pub committed_is : (l i : ℕ) → committed g pr l i
      ≡ record { t1 = commitment g.g0 (pr.claim l i).left l i; t2 = commitment g.g1 (pr.claim l i).right l i }
  unfolding commitment true_commitments false_commitments
  committed_is l i = by_cases (eqb l pr.known) (λ e. rw e) (λ e. rw e)
