use Prim.Native.Nat.{ℕ, ◌+◌, ◌-◌, ◌≤◌}
use mathlib.Core.Path.{◌≡◌, ap, ◌∙◌}
use native.Mathlib.Omega.{arith}
use lib.ListN.{length}
use borrow.Author.Rules.{rules}
use Rattle.std.proofs.lemmas.Result.{err_from_is_err_and}
use Rattle.rules.specs.Records.{kind_at, ballot_length}
use Rattle.frames.specs.Framed.{Framed, BallotFramed}
use Rattle.receipts.specs.Steps.{Hashes}
use Rattle.receipts.proofs.next_record.Goals.{In_ok-ballot_frame, After-ballot_length}
use Rattle.receipts.proofs.next_record.Goals as goal

pub returns-in_err-ballot_frame : goal.returns-in_err-ballot_frame
unfolding Hashes
returns-in_err-ballot_frame c =
    let p = err_from_is_err_and c.from_residual.result c.from_residual.ensures.1 in
    rw (p.1, p.2) c.in_err-ballot_frame.ensures

-- the length is that of the record's kind, and the record is on the board
sized : (c : goal.After-ballot_length) → let a = c.args in c.ballot_length.result ≡ ballot_length a.n (kind_at a.reading.board.now a.reading.next)
sized c = let a = c.args in c.ballot_length.ensures.0 ∙ ap (λ (x : ℕ). ballot_length a.n x) c.kind.ensures

fits : (c : goal.After-ballot_length) → let a = c.args in a.reading.next + c.ballot_length.result ≤ length a.reading.board.now
unfolding Framed BallotFramed
fits c = omega (arith, sized c, c.in_ok-ballot_frame.ensures.0.0)

pub slice_bounds-digest-end : goal.slice_bounds-digest-end
slice_bounds-digest-end c = let f = fits (goal.at.slice_bounds-digest-end c).After-ballot_length in search rules

pub returns : goal.returns
unfolding Hashes
returns c =
    let e = sized (goal.at.returns c).After-ballot_length in
    let f : c.args.reading.next + c.ballot_length.result - c.args.reading.next ≡ c.ballot_length.result = omega arith in
    (c.in_ok-ballot_frame.ensures, rw e, c.digest.ensures ∙ rw (f, e))
