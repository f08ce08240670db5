use Prim.Native.Nat.{◌*◌}
use mathlib.Core.Path.{◌≡◌, refl, ◌∙◌}
use native.Mathlib.Nat.{mul_comm}
use native.Mathlib.Omega.{arith}
use lib.ListN.{get_or, length-take, length-drop}
use Rattle.numbers.specs.Below.{concat_below}
use Rattle.group.specs.Elements.{parameters_of}
use Rattle.output.proofs.Laws.{none, block_more}
use Rattle.ballots.specs.Parts.{entry_in}
use Rattle.jobs.proofs.Lengths.{length_proof}
use borrow.Author.Rules.{rules}
use Rattle.ballots.proofs.prover.Prover.write_entries.Goals as goal

pub loop-c-init : goal.loop-c-init
unfolding concat_below
loop-c-init c = (omega arith, refl, λ m f. none _)

pub write_entry-requires : goal.write_entry-requires
write_entry-requires c = (omega arith, simp (length-take, length-drop) (omega (arith, c.requires, c.loop-c.invariant.1)))

pub loop-c-preserved : goal.loop-c-preserved
loop-c-preserved c =
    let l = c.loop-c in
    let s = c.args.self in (
      omega arith,
      search rules,
      λ m fed. block_more (entry_in m (parameters_of s.setup.group) s.ballot.n s.ballot.number (λ k. get_or s.ballot.list k 0) s.draws.now s.ballot.from) 32 l.c _ _ l.out _ (λ j h. length_proof _ _ _ _) (mul_comm 32 l.c) (l.invariant.2 m fed) (c.write_entry.ensures m fed),
    )

pub returns : goal.returns
returns c m fed =
    let l = c.loop-c in
    let n = c.args.self.ballot.n in
    let e : l.c ≡ n * n = omega arith in
    l.invariant.2 m fed ∙ rw e
