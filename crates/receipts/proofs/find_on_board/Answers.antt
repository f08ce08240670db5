use mathlib.Core.Path.{◌≡◌, refl, ◌∙◌}
use native.Mathlib.Omega.{arith}
use Rattle.std.proofs.Common.{rules}
use Rattle.std.proofs.lemmas.Result.{err_from_is_err_and}
use Rattle.header.specs.Heads.{HeaderReads}
use Rattle.receipts.proofs.Mapping.{mapped_ok, mapped_err}
use Rattle.receipts.proofs.Answering.{headed, header_refused, refuses, front_none, front_long, front_back}
use Rattle.receipts.proofs.find_on_board.Goals as goal

pub returns-in_err-h : goal.returns-in_err-h
unfolding HeaderReads
returns-in_err-h c =
    let p = err_from_is_err_and c.from_residual.result c.from_residual.ensures.1 in
    let m = mapped_err c.header_of.result _ _ c.map_err.ensures.cases _ c.in_err-h.was in
    let e : c.in_err-h.field-0.0 ≡ record { refusal = m.0; «record» = 0 } = search rules in
    let w = refuses _ _ _ _ (header_refused _ _ m.0 (rw (c.ranked.ensures, m.1, c.start-reading.ensures.0, c.start-reading.ensures.1) at c.header_of.ensures)) in
    record { found_after = rw (p.1, p.2, e) w.0; found_after_2 = w.1 }

pub find_in_ballots-requires : goal.find_in_ballots-requires
unfolding HeaderReads
find_in_ballots-requires c =
    let m = mapped_ok c.header_of.result _ _ c.map_err.ensures.cases _ c.in_ok-h.was in
    let r = rw (c.ranked.ensures, m, c.start-reading.ensures.0, c.start-reading.ensures.1) at c.header_of.ensures in
    (headed _ _ r.1 r.2, front_none _ _ refl c.count-count.ensures.1 ∙ rw c.count-count.ensures.0, front_long _ _ (omega (arith, c.count-count.ensures.0)) ∙ c.count-count.ensures.0)

pub returns : goal.returns
unfolding HeaderReads
returns c =
    let m = mapped_ok c.header_of.result _ _ c.map_err.ensures.cases _ c.in_ok-h.was in
    let r = rw (c.ranked.ensures, m, c.start-reading.ensures.0, c.start-reading.ensures.1) at c.header_of.ensures in
    let n = c.count-count.ensures.0 in
    let w = front_back c.count-count.result _ _ _ _ c.find_in_ballots.result r.0 n (omega (arith, n)) c.find_in_ballots.ensures.found_after c.find_in_ballots.ensures.found_after_2 in
    record { found_after = w.0; found_after_2 = w.1 }
