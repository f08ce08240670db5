-- A shift's record from its parts.
use Prim.Native.Nat.{ℕ, ◌+◌, ◌*◌, ◌≤◌}
use mathlib.Core.Path.{◌≡◌}
use mathlib.Core.List.{List, ◌++◌}
use native.Mathlib.Nat.{mul-le-mul_right}
use native.Mathlib.Omega.{arith}
use lib.ListN.{length, get_or}
use Rattle.sha256.specs.Message.{sha256}
use Rattle.group.specs.Elements.{Parameters}
use Rattle.group.specs.declared.Element.{Element}
use Rattle.group.specs.declared.Exponent.{Exponent}
use Rattle.rules.proofs.Sizes.{few_pairs}
use Rattle.rules.specs.Bytes.{bytes2}
use Rattle.rules.specs.Records.{SH}
use Rattle.rules.specs.Claims.{matrix_at}
use Rattle.rules.specs.Shift.{shift_context}
use Rattle.statements.specs.declared.claims.Claim.TheVariants.{Shift as Shifted}
use Rattle.statements.specs.Claims.{claim_of, Within, InverseTable}
use Rattle.jobs.proofs.Matrices.{SameMatrix, shift_same}
use Rattle.proving.specs.Plans.{Planned, proof_of}
use Rattle.jobs.proofs.Same.{proof_same}
use Rattle.ballots.specs.declared.shift.Shift.{Shift}
use Rattle.ballots.specs.Parts.{Witnessed, Shifting, old_matrix, new_matrix, shift_proof_of, shift_of}
use Rattle.ballots.proofs.Entries.{plan_of}
use Rattle.jobs.specs.Records.{pair_bytes, shift_bytes}
use Rattle.jobs.proofs.Lengths.{length_pairs}

module _ (g : Parameters) (s : Shift) (draws : List ℕ) (w : Shifting g.p g.q s draws) where
  pub count_few : s.rows * s.n ≤ 56
  count_few = let u : s.rows * s.n ≤ 7 * s.n = mul-le-mul_right s.n (omega (arith, w)) in omega (arith, w)

  pub cells_few : (s.rows + 1) * s.n ≤ 64
  cells_few = few_pairs (s.rows + 1) s.n (omega (arith, w)) (omega (arith, w))

  pub planned_shift : (page : List ℕ) (inverses : List Element) → 1024 ≤ length page → InverseTable page g.p g.q 0 (2 * ((s.rows + 1) * s.n)) inverses →
      Planned g page inverses (plan_of (Shifted (record { before = 0; new = 512; rows = s.rows; n = s.n; a = s.column })) (s.rows + 1) (2 + s.rows * s.n) s.struck (s.new + s.rows * s.n)) draws
  unfolding Within
  planned_shift page inverses long t =
      record {
        drawn =
            record {
              positive = w.news.positive;
              low = w.news.low;
              few = omega (arith, w);
              known = omega (arith, w);
              small = omega (arith, count_few);
              near = omega (arith, w.news.near);
              enough = omega (arith, w.news.enough);
              below = λ d h. w.news.below d (omega arith);
            };
        ready = λ l i h k.
            record {
              column = w.inside;
              branch = omega arith;
              statement = k;
              earlier = omega (arith, cells_few);
              later = omega (arith, count_few);
              long_enough = omega (arith, cells_few, t.long);
              inverted = t.inverted;
            };
      }

  pub shift_proof_is : (label page : List ℕ) (t : List Exponent) → SameMatrix (s.rows + 1) s.n (matrix_at page s.n 0) (old_matrix g s draws) →
      SameMatrix s.rows s.n (matrix_at page s.n 512) (new_matrix g s draws) →
      Witnessed g.q s.n draws s.old s.new s.column s.struck (2 + s.rows * s.n) t →
      proof_of label (shift_context s.round s.number) g (claim_of page g (Shifted (record { before = 0; new = 512; rows = s.rows; n = s.n; a = s.column }))) (plan_of (Shifted (record { before = 0; new = 512; rows = s.rows; n = s.n; a = s.column })) (s.rows + 1) (2 + s.rows * s.n) s.struck (s.new + s.rows * s.n)) t draws ≡ shift_proof_of label g s draws
  unfolding claim_of
  shift_proof_is label page t fo fn ft =
      proof_same sha256 label (shift_context s.round s.number) g (λ d. get_or draws d 0) (s.rows + 1) (2 + s.rows * s.n) s.struck (s.new + s.rows * s.n) _ _ _ _
      (λ l i hl hi. shift_same g s.n _ _ _ _ s.rows s.column l i fo fn w.inside hl hi) ft.each

  pub shift_joined : (label pairs : List ℕ) → pairs ≡ pair_bytes s.n (new_matrix g s draws) s.rows →
      (SH ++ bytes2 s.number ++ pairs) ++ shift_proof_of label g s draws ≡ shift_of label g s draws
  unfolding shift_bytes
  shift_joined label pairs e = rw e

  pub shift_start : (pairs : List ℕ) → pairs ≡ pair_bytes s.n (new_matrix g s draws) s.rows → length (SH ++ bytes2 s.number ++ pairs) ≡ 4 + 8 * (s.rows * s.n)
  shift_start pairs e = rw e (omega (arith, length_pairs s.n (new_matrix g s draws) s.rows))
