use mathlib.Core.Path.{refl, sym, ◌∙◌}
use native.Mathlib.Omega.{arith}
use Rattle.std.proofs.lemmas.Result.{err_from_is_err_and}
use Rattle.frames.specs.Framed.{Framed}
use Rattle.records.proofs.Tested.{wrong_frame, wrong_field, wrong_proof, all_sound}
use Rattle.records.proofs.BallotTables.{shift_table}
use Rattle.records.proofs.shift.read_shift.Goals as goal

pub overflow_add-next : goal.overflow_add-next
overflow_add-next c = omega (arith, c.shift_length.ensures.1, c.requires.header_known.1, c.well_formed)

pub returns-in_err-shift_frame : goal.returns-in_err-shift_frame
returns-in_err-shift_frame c =
    let p = err_from_is_err_and c.from_residual.result c.from_residual.ensures.1 in
    rw (p.1, p.2) (wrong_frame (shift_table _ c.args.h _ _ _ _ _ _) _ c.in_err-shift_frame.ensures)

pub fields_good-requires : goal.fields_good-requires
unfolding Framed
fields_good-requires c = omega (arith, c.in_ok-shift_frame.ensures.0)

pub returns-then-not-fields_good : goal.returns-then-not-fields_good
returns-then-not-fields_good c =
    wrong_field (shift_table _ c.args.h _ _ _ _ _ _) c.in_ok-shift_frame.ensures
    (sym c.fields_good.ensures ∙ c.if-not-fields_good.true)

pub shift_proof-requires : goal.shift_proof-requires
unfolding Framed
shift_proof-requires c =
    record {
      header_known = (c.requires.header_known.0, c.requires.header_known.2, c.requires.header_known.3, omega arith);
      n_in_bounds = (c.requires.n_in_bounds, c.in_ok-shift_frame.ensures.0);
    }

pub returns-then-not-shift_proof : goal.returns-then-not-shift_proof
returns-then-not-shift_proof c =
    wrong_proof (shift_table _ c.args.h _ _ _ _ _ _) c.in_ok-shift_frame.ensures
    (sym c.fields_good.ensures ∙ c.if-not-fields_good.false) (sym c.shift_proof.ensures ∙ c.if-not-shift_proof.true)

pub returns : goal.returns
returns c =
    all_sound (shift_table _ c.args.h _ _ _ _ _ _) c.in_ok-shift_frame.ensures
    (sym c.fields_good.ensures ∙ c.if-not-fields_good.false) (sym c.shift_proof.ensures ∙ c.if-not-shift_proof.false)
    refl _ (omega (arith, c.shift_length.ensures.0))
