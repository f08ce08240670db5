use Prim.Native.Nat.{suc, ◌+◌, ◌-◌}
use mathlib.Core.Path.{◌≡◌, ◌∙◌}
use mathlib.Core.Bool.{true}
use native.Mathlib.Omega.{arith}
use borrow.Author.Tests.{eq-eqb, ne_eqb}
use Rattle.rules.specs.Records.{is_counted}
use Rattle.rules.specs.Check.{kind}
use Rattle.header.specs.Heads.{head_of}
use Rattle.round.proofs.RecordAt.{later_none, later_shift}
use Rattle.round.proofs.Walked.{kind_read, earlier_pairs, earlier_small}
use Rattle.round.proofs.read_later.Goals.{After-kind-audited, Else-audited}
use Rattle.round.proofs.read_later.Goals as goal

-- the kind that was read
kind_of_lem : (c : goal.After-kind-audited) → let a = c.args in c.kind-audited.result ≡ kind a.board.now (head_of a.board.now a.h) a.walk.k
kind_of_lem c = kind_read c.args.board.now c.args.h c.requires.0 c.args.round c.args.at c.args.walk c.requires.1 _ c.kind-audited.ensures

-- the ballot is counted, and there is a round before
counted : (c : goal.Else-audited) → let a = c.args in is_counted (kind a.board.now (head_of a.board.now a.h) a.walk.k) ≡ true
counted c =
    let kind_of_lem : (let a = c.args in c.kind-audited.result ≡ kind a.board.now (head_of a.board.now a.h) a.walk.k) = kind_read c.args.board.now c.args.h c.requires.0 c.args.round c.args.at c.args.walk c.requires.1 _ c.kind-audited.ensures in
    let a = c.args in
    eq-eqb (kind a.board.now (head_of a.board.now a.h) a.walk.k) 0 (omega (arith, kind_of_lem))

round : (c : goal.Else-audited) → let m = c.args.round.m in m ≡ suc (m - 1)
round c = omega (arith, c.requires.3.further)

pub pairs_from-before-requires : goal.pairs_from-before-requires
pairs_from-before-requires c = omega (arith, earlier_small c.args.board.now c.args.h c.requires.0 c.args.round c.args.at c.args.walk c.requires.1, c.well_formed)

pub read_shift-requires-clause-n_in_bounds : goal.read_shift-requires-clause-n_in_bounds
read_shift-requires-clause-n_in_bounds c =
    let at = (goal.at.read_shift-requires-clause-n_in_bounds c).Else-audited in
    let rows : c.args.h.n - c.args.round.m + 1 ≡ c.args.h.n - (c.args.round.m - 1) = omega (arith, c.requires.3.early, round at) in
    rw (rows, c.pairs_from-before.ensures) (earlier_pairs c.args.board.now c.args.h c.requires.0 c.args.round c.args.at c.args.walk c.requires.1 _ (round at) c.requires.2 (counted at))

pub returns-then-audited : goal.returns-then-audited
returns-then-audited c =
    let k = kind c.args.board.now (head_of c.args.board.now c.args.h) c.args.walk.k in
    later_none c.args.board.now c.args.h _ _ _ _ c.requires.3.further (ne_eqb k 0 (λ z. omega (arith, z, kind_of_lem (goal.at.returns-then-audited c).After-kind-audited))) c.requires.1.fits

pub returns : goal.returns
returns c =
    later_shift c.args.board.now c.args.h _ _ _ _ _ _ _ (round (goal.at.returns c).Else-audited) (counted (goal.at.returns c).Else-audited) c.requires.1.here
    (c.pairs_from-before.ensures ∙ rw (c.requires.1.earlier _ (round (goal.at.returns c).Else-audited))) c.read_shift.ensures
