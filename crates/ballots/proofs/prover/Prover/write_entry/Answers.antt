use mathlib.Core.Path.{refl, ap, ◌∙◌}
use Prim.Native.Nat.{ℕ}
use mathlib.Core.List.{List}
use native.Mathlib.Nat.{mod-lt}
use native.Mathlib.Omega.{arith}
use lib.ListN.{get_or}
use Rattle.sha256.proofs.Feed.{fed_more}
use Rattle.group.specs.Elements.{parameters_of}
use Rattle.rules.specs.Ballot.{ballot_context}
use Rattle.rules.proofs.Sizes.{cells}
use Rattle.output.specs.Written.{written}
use Rattle.ballots.proofs.Pages.{row_few, paged_same}
use Rattle.ballots.proofs.Entries.{spread_part, planned_entry, entry_is}
use Rattle.ballots.proofs.prover.Prover.write_entry.Goals as goal

pub opened-v-requires : goal.opened-v-requires
opened-v-requires c =
    let s = c.args.self in
    (row_few c.args.c s.ballot.n s.ballot.n s.some s.few c.requires.0, omega (arith, s.few, mod-lt c.args.c {m = s.ballot.n} s.some))

pub invariant_of-inputs : goal.invariant_of-inputs
invariant_of-inputs c =
    let s = c.args.self in
    record {
      ready = s.ready;
      planned =
          planned_entry (parameters_of s.setup.group) s.page.now _ _ s.draws.now _ _
          c.opened-v.ensures.1 (omega (arith, s.long, c.requires.0, cells s.ballot.n s.few))
          (spread_part s.setup.group.q s.draws.now s.ballot.from _ _ 3 s.drawn (omega (arith, c.requires.0)));
    }

pub returns : goal.returns
returns c m fed =
    let s = c.args.self in
    let g = parameters_of s.setup.group in
    let list : ℕ → ℕ = λ k. get_or s.ballot.list k 0 in
    c.make.ensures m (ballot_context s.ballot.number c.args.c) (fed_more _ m fed _ _ c.feed_context-prefix.ensures)
    ∙ ap (λ (x : List ℕ). written x c.args.out.now)
    (entry_is m g s.ballot.n s.ballot.number list s.page.now s.draws.now s.ballot.from c.args.c _ _ s.some c.requires.0
    (paged_same g s.ballot.n list s.draws.now s.ballot.from s.page.now 0 s.ballot.n s.ready.p_pos (omega (arith, c.well_formed)) s.paged)
    c.opened-v.ensures.0 refl)
