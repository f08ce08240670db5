use Prim.Native.Nat.{ℕ}
use mathlib.Core.Path.{sym, ◌∙◌}
use mathlib.Core.List.{List}
use mathlib.Core.Path.{◌≡◌}
use Rattle.std.proofs.lemmas.Result.{err_from_is_err_and}
use Rattle.sha256.specs.Message.{sha256}
use Rattle.rules.specs.Receipts.{numbers_found, find_in_ballots}
use Rattle.receipts.proofs.Answering.{walk_refused, walk_sound, numbers_long, refuses, lists}
use Rattle.receipts.proofs.find_in_ballots.Goals.{In_ok-walk_ballots}
use Rattle.receipts.proofs.find_in_ballots.Goals as goal

pub returns-in_err-walk_ballots : goal.returns-in_err-walk_ballots
returns-in_err-walk_ballots c =
    let p = err_from_is_err_and c.from_residual.result c.from_residual.ensures.1 in
    let w = refuses _ _ _ _ (walk_refused _ _ _ _ c.in_err-walk_ballots.field-0.0 c.in_err-walk_ballots.ensures) in
    record { found_after = rw (p.1, p.2) w.0; found_after_2 = w.1 }

-- no ballot is refused, and these are the numbers
abbrev numbers : (c : goal.In_ok-walk_ballots) → List ℕ
numbers c = c.walk_ballots.new.numbers

sound : (c : goal.In_ok-walk_ballots) → let d = c.args.digests.now.lent.now in find_in_ballots sha256 c.args.board.now d ≡ numbers_found (numbers c)
sound c = walk_sound _ _ _ _ c.requires.1 c.in_ok-walk_ballots.ensures

pub returns : goal.returns
returns c =
    let s = sound (goal.at.returns c).In_ok-walk_ballots in
    let w = lists _ _ _ _ s (numbers_long _ _ _ s ∙ sym c.requires.2) c.copy_from_slice.ensures.after in
    record { found_after = w.0; found_after_2 = w.1 }
