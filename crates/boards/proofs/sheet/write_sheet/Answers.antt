use Prim.Native.Nat.{ℕ, ◌+◌, ◌%◌}
use mathlib.Core.Path.{◌≡◌, refl, ap, ◌∙◌}
use mathlib.Core.List.{append-nil}
use native.Mathlib.Omega.{arith}
use lib.ListN.{get_or}
use Rattle.numbers.specs.Below.{concat_below}
use Rattle.output.proofs.Laws.{more}
use Rattle.boards.proofs.Columns.{column_is, columns_more, sheet_whole}
use borrow.Author.Rules.{rules}
use Rattle.boards.proofs.sheet.write_sheet.Invariants.{ahead}
use Rattle.boards.proofs.sheet.write_sheet.Goals as goal

pub loop-i-init : goal.loop-i-init
unfolding concat_below
loop-i-init c = (omega arith, refl, λ front o e h. rw (append-nil front) h)

pub loop-i-preserved : goal.loop-i-preserved
loop-i-preserved c =
    let l = c.loop-i in
    let f = c.args in
    let q = f.entries.head.setup.group.q in
    let kind : ℕ → ℕ = λ b. get_or f.entries.kinds.now b 0 in
    let sum = c.column_sum-sum.ensures ∙ ap (λ (x : ℕ). x % q) (column_is q f.entries.head.n f.entries.head.k kind f.entries.draws.now f.plan.new (ahead f.entries.kinds.now f.entries.head.n f.plan.m) l.i) in (
      omega arith,
      search rules,
      λ front o e h. columns_more q f.entries.head.n f.entries.head.k kind f.entries.draws.now (λ b. f.plan.new + ahead f.entries.kinds.now f.entries.head.n f.plan.m b) f.plan.sheet.counts front l.i _ _ o l.out _ e refl sum (l.invariant.2 front o e h) c.write_tally.ensures,
    )

pub returns : goal.returns
returns c =
    let l = c.loop-i in
    let f = c.args in
    let e : l.i ≡ f.entries.head.n = omega arith in
    l.invariant.2 _ _ refl (more _ _ _ _ _ _ refl c.put_two.ensures c.put_two-2.ensures)
    ∙ rw (e, sheet_whole f.entries.head.setup.group.q f.entries.head.n f.entries.head.k (λ b. get_or f.entries.kinds.now b 0) f.entries.draws.now (λ b. f.plan.new + ahead f.entries.kinds.now f.entries.head.n f.plan.m b) f.plan.sheet.counts f.plan.m f.plan.out _ refl)

pub column_sum-sum-requires : goal.column_sum-sum-requires
column_sum-sum-requires c =
    record {
      n_high = (c.requires.n_high.0, c.requires.n_high.1, c.requires.n_high.2, c.requires.n_high.3, omega (arith, c.requires.n_high));
      by_index = λ b h k. omega (arith, c.requires.by_index b h k);
    }
