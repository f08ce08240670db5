use Prim.Native.Nat.{ℕ, ◌+◌, ◌≤◌}
use mathlib.Core.Path.{sym, ap, ◌∙◌}
use native.Mathlib.Omega.{arith}
use lib.ListN.{length}
use Rattle.rules.specs.Records.{ballot_length}
use Rattle.std.proofs.lemmas.Result.{err_from_is_err_and}
use Rattle.frames.specs.Framed.{Framed, BallotFramed}
use Rattle.records.proofs.Tested.{wrong_frame, wrong_field, wrong_proof, wrong_opening, all_sound}
use Rattle.records.proofs.BallotTables.{ballot_table}
use Rattle.records.proofs.ballot.read_ballot.Goals.{After-kind-kind}
use Rattle.records.proofs.ballot.read_ballot.Goals as goal

-- the frame is sound, and the record on the board
fits : (c : goal.After-kind-kind) → let a = c.args in a.at + ballot_length a.h.n c.kind-kind.result ≤ length a.board.now
unfolding BallotFramed Framed
fits c = rw c.kind-kind.ensures c.in_ok-ballot_frame.ensures.0.0

pub returns-in_err-ballot_frame : goal.returns-in_err-ballot_frame
returns-in_err-ballot_frame c =
    let p = err_from_is_err_and c.from_residual.result c.from_residual.ensures.1 in
    rw (p.1, p.2) (wrong_frame (ballot_table _ _ _ c.requires.0 _) _ c.in_err-ballot_frame.ensures)

pub returns-then-not-fields_good : goal.returns-then-not-fields_good
returns-then-not-fields_good c =
    wrong_field (ballot_table _ _ _ c.requires.0 _) c.in_ok-ballot_frame.ensures
    (rw (← c.kind-kind.ensures) (sym c.fields_good.ensures ∙ c.if-not-fields_good.true))

pub returns-then-not-proofs_good : goal.returns-then-not-proofs_good
returns-then-not-proofs_good c =
    wrong_proof (ballot_table _ _ _ c.requires.0 _) c.in_ok-ballot_frame.ensures
    (rw (← c.kind-kind.ensures) (sym c.fields_good.ensures ∙ c.if-not-fields_good.false)) (sym c.proofs_good.ensures ∙ c.if-not-proofs_good.true)

pub returns-then-not-shown_good : goal.returns-then-not-shown_good
returns-then-not-shown_good c =
    wrong_opening (ballot_table _ _ _ c.requires.0 _) c.in_ok-ballot_frame.ensures
    (rw (← c.kind-kind.ensures) (sym c.fields_good.ensures ∙ c.if-not-fields_good.false))
    (sym c.proofs_good.ensures ∙ c.if-not-proofs_good.false)
    (rw (← c.kind-kind.ensures) (sym c.shown_good.ensures ∙ c.if-not-shown_good.true))

pub returns : goal.returns
returns c =
    all_sound (ballot_table _ _ _ c.requires.0 _) c.in_ok-ballot_frame.ensures
    (rw (← c.kind-kind.ensures) (sym c.fields_good.ensures ∙ c.if-not-fields_good.false))
    (sym c.proofs_good.ensures ∙ c.if-not-proofs_good.false)
    (rw (← c.kind-kind.ensures) (sym c.shown_good.ensures ∙ c.if-not-shown_good.false))
    _ (omega (arith, c.ballot_length.ensures.0, ap (λ (x : ℕ). ballot_length c.args.h.n x) c.kind-kind.ensures))

pub invariant_of-ballot : goal.invariant_of-ballot
invariant_of-ballot c = record { known = c.requires.0; fits = fits (goal.at.invariant_of-ballot c).After-kind-kind }
