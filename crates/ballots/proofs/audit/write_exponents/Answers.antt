use Prim.Native.Nat.{ℕ, ◌+◌}
use mathlib.Core.Path.{◌≡◌, refl, ◌∙◌}
use mathlib.Core.List.{List}
use native.Mathlib.Nat.{mul_comm}
use native.Mathlib.Omega.{arith}
use lib.ListN.{get_or, length-take, length-drop}
use Rattle.numbers.specs.Below.{concat_below}
use Rattle.rules.specs.Bytes.{bytes4}
use Rattle.output.proofs.Laws.{none, block_more}
use borrow.Author.Rules.{rules}
use Rattle.ballots.proofs.audit.write_exponents.Goals as goal

pub loop-c-init : goal.loop-c-init
unfolding concat_below
loop-c-init c = (omega arith, refl, none _)

pub loop-c-preserved : goal.loop-c-preserved
loop-c-preserved c =
    let l = c.loop-c in
    let f = c.args in
    let g : ℕ → List ℕ = λ d. bytes4 (get_or f.draws.now (f.from + d) 0) in
    (omega arith, search rules, block_more g 4 l.c _ _ l.out _ (λ j h. refl) (mul_comm 4 l.c) l.invariant.2 c.put_number4.ensures)

pub put_number4-requires : goal.put_number4-requires
put_number4-requires c = simp (length-take, length-drop) (omega (arith, c.requires, c.loop-c.invariant.1))

pub returns : goal.returns
returns c = let l = c.loop-c in let e : l.c ≡ c.args.count = omega arith in l.invariant.2 ∙ rw e
