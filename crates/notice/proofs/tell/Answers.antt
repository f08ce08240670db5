use mathlib.Core.Path.{◌≡◌, sym, ◌∙◌}
use mathlib.Core.Bool.{true, false}
use lib.ListN.{length}
use native.Mathlib.Omega.{arith}
use Rattle.std.proofs.lemmas.Option.{MatchOption-at_some}
use Rattle.std.proofs.lemmas.Result.{err_from_is_err_and}
use Rattle.rules.specs.Sentences.{text}
use Rattle.rules.specs.Notice.{name_of, names_good}
use Rattle.count.specs.State.{result_of}
use Rattle.notice.proofs.Telling.{error_is, unchanged, names_bad, too_short, told_is}
use Rattle.notice.proofs.tell.Goals.{In_ok-names, After-text_length-length}
use Rattle.notice.proofs.tell.Goals as goal

pub returns-in_err-names : goal.returns-in_err-names
returns-in_err-names c =
    let a = c.args in
    let bad : names_good a.lent.now a.n ≡ false = sym (c.in_err-names.ensures.variant ∙ c.read_names.ensures.good) in
    let w = unchanged _ _ _ a.out.now (names_bad a.n a.lent.now (result_of a.n a.ended) (length a.out.now) bad) in
    let p = err_from_is_err_and c.from_residual.result c.from_residual.ensures.1 in
    record { out_after = rw (p.1, p.2, error_is _ _ _ c.in_err-names.ensures.value) w.0; out_after_2 = w.1 }

-- the names are good, and the length is that of the text
tested : (c : goal.In_ok-names) → names_good c.args.lent.now c.args.n ≡ true
tested c = sym (c.in_ok-names.ensures.variant ∙ c.read_names.ensures.good)

measured : (c : goal.After-text_length-length) → let a = c.args in
    c.text_length-length.result ≡ length (text a.n (name_of a.lent.now) (result_of a.n a.ended))
measured c =
    let q = MatchOption-at_some _ _ _ c.in_ok-names.ensures.ok_part c.read_names.ensures.read in
    rw (q.0, q.1) at c.text_length-length.ensures

pub returns-then-out-length : goal.returns-then-out-length
returns-then-out-length c =
    let a = c.args in
    let at = goal.at.returns-then-out-length c in
    let long = measured at.After-text_length-length in
    let w = unchanged _ _ _ a.out.now (too_short a.n a.lent.now (result_of a.n a.ended) (length a.out.now) (tested at.In_ok-names) (omega (arith, long))) in
    record { out_after = w.0; out_after_2 = w.1 }

pub returns : goal.returns
returns c =
    let a = c.args in
    let at = goal.at.returns c in
    let long = measured at.After-text_length-length in
    let q = MatchOption-at_some _ _ _ c.in_ok-names.ensures.ok_part c.read_names.ensures.read in
    let w = told_is a.n a.lent.now (result_of a.n a.ended) (length a.out.now) (tested at.In_ok-names) (omega (arith, long, c.if-out-length.false)) _ _ _ long
    (rw (q.0, q.1) at c.put_text.ensures) in
    record { out_after = w.0; out_after_2 = w.1 }
