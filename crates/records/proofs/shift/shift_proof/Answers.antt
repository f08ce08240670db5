use Prim.Native.Nat.{◌+◌, ◌*◌, ◌-◌, ◌≤◌}
use native.Mathlib.Nat.{mul-le-mul_right}
use native.Mathlib.Omega.{arith}
use Rattle.rules.specs.Shift.{shift_context}
use Rattle.statements.specs.Claims.{claim_of, Within}
use Rattle.statements.proofs.Lines.{row_below}
use Rattle.records.proofs.shift.shift_proof.Goals.{Start}
use Rattle.records.proofs.shift.shift_proof.Goals as goal

-- the table has room for the matrix before
small : (c : goal.Start) → let a = c.args in ((a.h.n - a.m) * a.h.n + a.h.n ≤ a.h.n * a.h.n) × (a.h.n * a.h.n ≤ 8 * a.h.n) × (a.h.n ≤ 8)
small c =
    let a = c.args in
    let pre = c.requires.header_known in
    (row_below a.h.n a.h.n (a.h.n - a.m) (omega arith), mul-le-mul_right a.h.n pre.0.high, pre.0.high)

pub inverse_table-inverses-requires : goal.inverse_table-inverses-requires
inverse_table-inverses-requires c =
    let ready = c.requires.header_known.0.ready in
    (ready.p_pos, ready.q_pos, omega (arith, small (goal.at.inverse_table-inverses-requires c).Start), omega arith)

pub proof_good-requires : goal.proof_good-requires
unfolding Within
proof_good-requires c =
    let table = c.inverse_table-inverses.ensures in record {
      header_known = c.requires.header_known.0;
      statements_in_bounds = omega arith;
      by_index = λ l i hl hi.
          record {
            column = c.requires.header_known.3;
            branch = omega arith;
            statement = hi;
            earlier = c.requires.n_in_bounds.0;
            later = omega arith;
            long_enough = omega (arith, table.long, small (goal.at.proof_good-requires c).Start);
            inverted = λ u b. table.inverted u (omega arith);
          };
    }

pub returns : goal.returns
unfolding claim_of
returns c = c.proof_good.ensures (shift_context _ _) c.prefix-prefix.ensures
