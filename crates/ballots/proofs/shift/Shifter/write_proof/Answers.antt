use Prim.Native.Nat.{ℕ, ◌+◌, ◌<◌}
use mathlib.Core.Path.{ap, ◌∙◌}
use mathlib.Core.List.{List}
use native.Mathlib.Omega.{arith}
use lib.ListN.{get_or}
use Rattle.sha256.proofs.Feed.{fed_more}
use Rattle.group.specs.Elements.{parameters_of}
use Rattle.rules.specs.Shift.{shift_context}
use Rattle.output.specs.Written.{written}
use Rattle.ballots.proofs.Pages.{paged_same}
use Rattle.ballots.proofs.Entries.{spread_part}
use Rattle.ballots.proofs.Shifts.{count_few, cells_few, planned_shift, shift_proof_is}
use Rattle.ballots.proofs.shift.Shifter.write_proof.Goals as goal

pub witnesses-requires : goal.witnesses-requires
witnesses-requires c =
    let f = c.args in
    let p = c.args.self.shifting in
    record {
      n_nonzero = (p.some, p.few, p.fewer, p.inside, p.within);
      draws_below = (p.olds, spread_part _ f.self.draws.now f.self.shift.new _ _ _ p.news (omega arith));
    }

pub invariant_of-inputs : goal.invariant_of-inputs
invariant_of-inputs c =
    let s = c.args.self in
    record { ready = s.ready; planned = planned_shift (parameters_of s.setup.group) s.shift s.draws.now s.shifting c.args.page.now _ c.requires.ready.1 c.inverse_table-inverses.ensures }

pub make-requires : goal.make-requires
make-requires c =
    let s = c.args.self in
    (omega (arith, c.requires.ready.0), omega (arith, count_few (parameters_of s.setup.group) s.shift s.draws.now s.shifting))

pub returns : goal.returns
returns c m fed =
    let f = c.args in
    let g = parameters_of f.self.setup.group in
    let p = c.args.self.shifting in
    let small : f.self.setup.group.p < 4294967296 = omega (arith, c.well_formed) in
    c.make.ensures m (shift_context f.self.shift.round f.self.shift.number) (fed_more _ m fed _ _ c.feed_context-prefix.ensures)
    ∙ ap (λ (x : List ℕ). written x f.out.now)
    (shift_proof_is g f.self.shift f.self.draws.now p m f.page.now _
    (paged_same g f.self.shift.n (λ k. get_or f.self.shift.before k 0) f.self.draws.now f.self.shift.old f.page.now 0 (f.self.shift.rows + 1) p.modulus small c.requires.paged.0)
    (paged_same g f.self.shift.n (λ k. get_or f.self.shift.after k 0) f.self.draws.now f.self.shift.new f.page.now 512 f.self.shift.rows p.modulus small c.requires.paged.1)
    c.witnesses.ensures)

pub inverse_table-inverses-requires : goal.inverse_table-inverses-requires
inverse_table-inverses-requires c = let f = c.args in let p = f.self.shifting in let few = cells_few (parameters_of f.self.setup.group) f.self.shift f.self.draws.now p in (p.modulus, p.news.positive, omega (arith, few), omega (arith, few, c.requires.ready.1))
