use mathlib.Core.Path.{◌≡◌}
use mathlib.Core.Bool.{true}
use native.Mathlib.Omega.{arith}
use lib.ListN.{length}
use Rattle.rules.specs.Receipts.{digest_count, digests_good}
use Rattle.receipts.proofs.Answering.{list_bad, list_short, list_fine, refuses}
use Rattle.receipts.proofs.find.Goals.{In-Some, After-count}
use Rattle.receipts.proofs.find.Goals as goal

pub returns-in_default : goal.returns-in_default
returns-in_default c =
    let w = refuses _ _ _ _ (list_bad _ _ _ c.in_default.ensures) in
    record { found_after = w.0; found_after_2 = w.1 }

-- these are the lent digests
good : (c : goal.In-Some) → digests_good c.args.digests.now ≡ true
good c = rw c.in-Some.ensures at c.in-Some.digests.good

counted : (c : goal.After-count) → c.count.result ≡ digest_count c.args.digests.now
counted c = rw c.in-Some.ensures at c.count.ensures.0

pub returns-then-not-fits : goal.returns-then-not-fits
returns-then-not-fits c =
    let w = refuses _ _ _ _ (list_short _ _ _ (good (goal.at.returns-then-not-fits c).In-Some) (omega (arith, counted (goal.at.returns-then-not-fits c).After-count))) in
    record { found_after = w.0; found_after_2 = w.1 }

pub returns : goal.returns
returns c =
    let a = c.args in
    let fine = list_fine a.board.now a.digests.now (length a.found.now) (good (goal.at.returns c).In-Some) (omega (arith, counted (goal.at.returns c).After-count)) in
    let told = rw c.in-Some.ensures at c.find_on_board.ensures in
    record { found_after = rw fine told.found_after; found_after_2 = rw fine told.found_after_2 }
