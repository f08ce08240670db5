use Prim.Native.Nat.{◌+◌}
use mathlib.Core.Path.{◌≡◌, refl, ◌∙◌}
use native.Mathlib.Nat.{mul_comm}
use native.Mathlib.Omega.{arith}
use lib.ListN.{get_or, length-take, length-drop}
use Rattle.numbers.specs.Below.{concat_below}
use Rattle.group.specs.Elements.{parameters_of}
use Rattle.output.proofs.Laws.{none, block_more}
use Rattle.ballots.specs.Parts.{line_of}
use Rattle.ballots.proofs.Entries.{length_line}
use borrow.Author.Rules.{rules}
use Rattle.ballots.proofs.prover.Prover.write_lines.Goals as goal

pub loop-t-init : goal.loop-t-init
unfolding concat_below
loop-t-init c = (omega arith, refl, λ m f. none _)

pub write_line-requires : goal.write_line-requires
write_line-requires c = (omega arith, simp (length-take, length-drop) (omega (arith, c.requires, c.loop-t.invariant.1)))

pub loop-t-preserved : goal.loop-t-preserved
loop-t-preserved c =
    let l = c.loop-t in
    let s = c.args.self in (
      omega arith,
      search rules,
      λ m fed. block_more (line_of m (parameters_of s.setup.group) s.ballot.n s.ballot.number (λ k. get_or s.ballot.list k 0) s.draws.now s.ballot.from) 16 l.t _ _ l.out _ (λ j h. length_line _ _ _ _ _ _ _ _) (mul_comm 16 l.t) (l.invariant.2 m fed) (c.write_line.ensures m fed),
    )

pub returns : goal.returns
returns c m fed =
    let l = c.loop-t in
    let n = c.args.self.ballot.n in
    let e : l.t ≡ n + n = omega arith in
    l.invariant.2 m fed ∙ rw e
