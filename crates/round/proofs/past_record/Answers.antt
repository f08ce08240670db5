use Prim.Native.Nat.{◌+◌, ◌^◌, ◌<◌}
use mathlib.Core.Path.{◌≡◌, refl, sym, ◌∙◌}
use native.Mathlib.Omega.{arith}
use borrow.Author.Tests.{eq-eqb}
use Rattle.rules.specs.Check.{kind}
use Rattle.header.specs.Heads.{head_of}
use Rattle.records.specs.Passes.{Passes}
use Rattle.round.proofs.Walked.{number_small, kind_read, few_ballots, earlier_small, row_fits, walked_more}
use Rattle.round.proofs.past_record.Goals.{After-kind-kind}
use Rattle.round.proofs.past_record.Goals as goal

-- the kind that was read is the ballot's
kind_of_lem : (c : goal.After-kind-kind) → let a = c.args in c.kind-kind.result ≡ kind a.board.now (head_of a.board.now a.h) a.walk.k
kind_of_lem c = kind_read c.args.board.now c.args.h c.requires.header_known.0 c.args.round c.args.at c.args.walk c.requires.header_known.1 _ c.kind-kind.ensures

pub tally_after-requires-clause-ready : goal.tally_after-requires-clause-ready
tally_after-requires-clause-ready c =
    let v = c.requires.header_known.1 in
    (c.requires.header_known.0.ready, c.requires.header_known.0.high, omega (arith, v.fits, c.well_formed), few_ballots c.args.board.now c.args.h c.requires.header_known.0 c.args.round c.args.at c.args.walk v c.requires.header_known.2)

pub tally_after-requires-clause-n_in_bounds : goal.tally_after-requires-clause-n_in_bounds
unfolding Passes
tally_after-requires-clause-n_in_bounds c =
    let same = kind_of_lem (goal.at.tally_after-requires-clause-n_in_bounds c).After-kind-kind in
    λ z. row_fits c.args.board.now c.args.h c.requires.header_known.0 c.args.round c.args.at c.args.walk c.requires.header_known.1 c.requires.header_known.3 (eq-eqb _ 0 (sym same ∙ z)) c.requires.record_passes.2

small : (c : goal.After-kind-kind) → c.args.walk.number + 2 < 2 ^ 64
small c = number_small c.args.board.now c.args.h c.requires.header_known.0 c.args.round.m c.args.walk.k _ c.requires.header_known.3 c.requires.header_known.1.few c.requires.header_known.1.numbered

pub returns : goal.returns
returns c =
    let same = kind_of_lem (goal.at.returns c).After-kind-kind in (
      walked_more c.args.board.now c.args.h c.requires.header_known.0 c.args.round c.args.at c.args.walk c.requires.header_known.1 _ c.requires.record_passes c.requires.header_known.2 _ _ _ _
          c.earlier_length.ensures.1 (λ d z. rw (← same) (c.earlier_length.ensures.2 d z)) (rw (← same) c.records_of.ensures.0) (rw (← same) c.ballot_length.ensures.0)
          (rw (← same) c.tally_after.ensures),
      refl,
    )

pub overflow_add-result-3 : goal.overflow_add-result-3
overflow_add-result-3 c = omega (arith, earlier_small c.args.board.now c.args.h c.requires.header_known.0 c.args.round c.args.at c.args.walk c.requires.header_known.1, c.earlier_length.ensures.0, c.well_formed)

pub overflow_add-result-2 : goal.overflow_add-result-2
overflow_add-result-2 c = omega (arith, small (goal.at.overflow_add-result-2 c).After-kind-kind, c.records_of.ensures.1)
