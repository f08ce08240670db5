use Prim.Native.Nat.{◌+◌}
use mathlib.Core.Path.{◌≡◌, sym, ◌∙◌}
use native.Mathlib.Omega.{arith}
use Rattle.std.proofs.lemmas.Result.{err_from_is_err_and}
use Rattle.rules.specs.Sheet as said
use Rattle.rules.specs.Records.{sheet_length}
use Rattle.rules.specs.Check.{due}
use Rattle.count.specs.State.{standing_of}
use Rattle.header.specs.Heads.{head_of}
use Rattle.sheets.specs.Tallies.{Tallied}
use Rattle.frames.specs.Framed.{Framed}
use Rattle.sheets.specs.Sheets.{Stepped}
use Rattle.sheets.proofs.SheetSteps.{place_after}
use Rattle.sheets.proofs.SheetTable.{tallies_are, counts_are, wrong_frame, wrong_fields, wrong_tally, last_test}
use Rattle.sheets.proofs.read_sheet.Goals.{After-tallies}
use Rattle.sheets.proofs.read_sheet.Goals as goal

-- the equations that were tested are those of the products carried
tallied : (c : goal.After-tallies) (T : said.Tally) →
    let a = c.args in
    Tallied a.h.setup.group.p a.h.n a.tally T → said.tallies a.board.now (head_of a.board.now a.h) a.at T ≡ c.tallies.result
tallied c T v =
    let a = c.args in
    tallies_are a.board.now a.h a.tally.ballots a.at a.tally T _ v c.in_ok-read.ensures ∙ sym c.tallies.ensures

pub returns-in_err-sheet_frame : goal.returns-in_err-sheet_frame
unfolding Stepped
returns-in_err-sheet_frame c =
    let p = err_from_is_err_and c.from_residual.result c.from_residual.ensures.1 in
    rw (p.1, p.2) (record { sheet = λ T v. wrong_frame c.args.board.now c.args.h _ _ _ T _ _ c.in_err-sheet_frame.ensures; next = tt })

pub sheet_fields-requires : goal.sheet_fields-requires
unfolding Framed
sheet_fields-requires c = (c.requires.header_known.0, c.in_ok-sheet_frame.ensures.0, c.requires.few)

pub returns-in_err-read : goal.returns-in_err-read
unfolding Stepped
returns-in_err-read c =
    let p = err_from_is_err_and c.from_residual-in_err-read.result c.from_residual-in_err-read.ensures.1 in
    rw (p.1, p.2) (record { sheet = λ T v. wrong_fields c.args.board.now c.args.h _ _ _ T _ c.in_ok-sheet_frame.ensures _ c.in_err-read.ensures; next = tt })

pub returns-then-not-tallies : goal.returns-then-not-tallies
unfolding Stepped
returns-then-not-tallies c =
    record {
      sheet = λ T v. wrong_tally c.args.board.now c.args.h _ _ _ T _ c.in_ok-sheet_frame.ensures _ c.in_ok-read.ensures
          (tallied (goal.at.returns-then-not-tallies c).After-tallies T v ∙ c.if-not-tallies.true);
      next = tt;
    }

pub byte-requires : goal.byte-requires
unfolding Framed
byte-requires c = omega (arith, c.in_ok-sheet_frame.ensures.0)

pub returns : goal.returns
returns c =
    let a = c.args in
    let size : c.sheet_length.result ≡ sheet_length a.h.n = c.sheet_length.ensures.0 in
    record {
      sheet = λ T v. rw (
        last_test a.board.now a.h a.tally.ballots a.at (a.count.gone.outs + 1) T
            (due a.h.n a.tally.ballots (standing_of a.h.n a.count) (said.counts_at a.board.now a.at a.h.n)) c.in_ok-sheet_frame.ensures _ c.in_ok-read.ensures
            (tallied (goal.at.returns c).After-tallies T v ∙ c.if-not-tallies.false),
        ← counts_are a.board.now a.h a.tally.ballots a.at _ c.in_ok-read.ensures,
        ← c.byte.ensures,
        ← size,
      ) c.counted.ensures;
      next = rw (← size) (place_after _ _ _ _ _ _ _ c.counted.ensures);
    }
