use Prim.Native.Nat.{ℕ, ◌-◌, ◌*◌}
use mathlib.Core.Path.{◌≡◌, refl, ap, ◌∙◌}
use mathlib.Core.List.{List}
use native.Mathlib.Nat.{mul_comm, mod-lt}
use native.Mathlib.Omega.{arith}
use lib.ListN.{length, get_or, length-take, length-drop}
use borrow.Rule.Slice.PartMut.{mid_of}
use Rattle.numbers.specs.Below.{concat_below}
use Rattle.group.specs.Elements.{parameters_of}
use Rattle.output.specs.Written.{written}
use Rattle.output.proofs.Laws.{none, block_more}
use Rattle.jobs.specs.Records.{matrix_of}
use Rattle.rules.proofs.Sizes.{few_pairs}
use Rattle.ballots.proofs.Pages.{pair_in, pairs_through, made, row_few}
use borrow.Author.Rules.{rules}
use Rattle.ballots.proofs.pairs.write_pairs.Goals as goal

pub loop-c-init : goal.loop-c-init
unfolding concat_below
loop-c-init c = (omega arith, few_pairs c.args.rows c.args.n (omega (arith, c.requires)) (omega (arith, c.requires)), refl, refl, none _)

pub loop-c-preserved : goal.loop-c-preserved
loop-c-preserved c =
    let l = c.loop-c in
    let f = c.args in
    let M = matrix_of (parameters_of f.g) f.n (λ k. get_or f.list k 0) f.draws.now f.from in
    let p = c.put_pair.ensures
    ∙ ap (λ (x : List ℕ). written x (mid_of (8 * l.c) (length l.out - 8 * l.c) l.out)) (made (parameters_of f.g) f.n (λ k. get_or f.list k 0) f.draws.now f.from l.c _ _ refl c.opened-v.ensures.0) in (
      omega arith,
      l.invariant.1,
      l.invariant.2,
      search rules,
      block_more (pair_in f.n M) 8 l.c _ _ l.out _ (λ j h. refl) (mul_comm 8 l.c) l.invariant.4 p,
    )

pub returns : goal.returns
returns c =
    let l = c.loop-c in
    let f = c.args in
    let e : l.c ≡ f.rows * f.n = omega (arith, l.invariant.2) in
    l.invariant.4 ∙ rw (e, pairs_through f.n f.rows (matrix_of (parameters_of f.g) f.n (λ k. get_or f.list k 0) f.draws.now f.from) (omega (arith, c.requires)))

pub opened-v-requires : goal.opened-v-requires
opened-v-requires c =
    let f = c.args in
    let l = c.loop-c in
    let p = c.requires in
    (row_few l.c f.n f.rows (omega (arith, p)) (omega (arith, p)) (omega (arith, l.invariant.2)), omega (arith, p, mod-lt l.c {m = f.n} (omega (arith, p))))

pub put_pair-requires : goal.put_pair-requires
put_pair-requires c = (omega (arith, c.requires), simp (length-take, length-drop) (omega (arith, c.requires, c.loop-c.invariant.2, c.loop-c.invariant.3)))
