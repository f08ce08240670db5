use Prim.Native.Nat.{ℕ, ◌+◌, ◌-◌, ◌*◌, ◌≤◌}
use mathlib.Core.Path.{refl, sym, ap, ◌∙◌}
use mathlib.Core.List.{List}
use native.Mathlib.Omega.{arith}
use lib.ListN.{length}
use Rattle.output.specs.Written.{written}
use Rattle.output.proofs.Laws.{none}
use Rattle.layout.proofs.Rounds.{length_later}
use Rattle.count.specs.State.{list_of}
use Rattle.boards.specs.Parts.{board_job, head_group}
use Rattle.statements.proofs.Lines.{row_below}
use Rattle.boards.proofs.Plans.{none_later, made_is, made_ready}
use Rattle.boards.proofs.records.write_later.Goals.{Start}
use Rattle.boards.proofs.records.write_later.Goals as goal

-- the ranking is within the list
ranked : (s : goal.Start) → s.args.turn.b * s.args.entries.head.n + s.args.entries.head.n ≤ length s.args.entries.rankings.now
ranked s = let p = s.requires.0 in omega (arith, row_below s.args.entries.head.k s.args.entries.head.n s.args.turn.b p.below, p.round.listed)

pub returns-then-kind-ne-COUNTED : goal.returns-then-kind-ne-COUNTED
returns-then-kind-ne-COUNTED c =
    let e = c.args.entries in
    let t = c.args.turn.plan in
    none _ ∙ ap (λ (x : List ℕ). written x c.args.out.now) (none_later (board_job e) (head_group e.head) (list_of t.before) t.a t.m c.args.turn.b c.requires.1 (λ z. c.if-kind-ne-COUNTED.true (c.from-kind.ensures ∙ z)))

pub write_shift-requires : goal.write_shift-requires
write_shift-requires c =
    let e = c.args.entries in
    let p = c.requires in
    let counted = sym c.from-kind.ensures ∙ c.if-kind-ne-COUNTED.false in
    record {
      ready = (e.head.ready, made_ready p.0 p.1 _ counted refl refl refl refl c.still_in-before.ensures c.still_in-after.ensures c.row_of.ensures (ap (λ (x : ℕ). x - 1) c.from.ensures) refl refl e.head.setup.group.p e.head.ready.p_pos);
      n_in_bounds = omega (arith, length_later e.head.n _ c.args.turn.plan.m (λ z. omega (arith, p.1)) counted, p.2);
    }

pub returns : goal.returns
returns c =
    let p = c.requires in
    c.write_shift.ensures
    ∙ ap (λ (x : List ℕ). written x c.args.out.now)
    (made_is p.0 p.1 _ (sym c.from-kind.ensures ∙ c.if-kind-ne-COUNTED.false) refl refl refl refl c.still_in-before.ensures c.still_in-after.ensures c.row_of.ensures (ap (λ (x : ℕ). x - 1) c.from.ensures) refl refl (head_group c.args.entries.head))

pub still_in-before-requires : goal.still_in-before-requires
still_in-before-requires c = let r = c.requires.0.round in (r.n_high, ranked (goal.at.still_in-before-requires c).Start, r.before_listed)

pub still_in-after-requires : goal.still_in-after-requires
still_in-after-requires c = let r = c.requires.0.round in (r.n_high, ranked (goal.at.still_in-after-requires c).Start, r.gone_listed)

pub overflow_sub-s-2 : goal.overflow_sub-s-2
overflow_sub-s-2 c = let p = c.requires.0 in omega (arith, c.from.ensures, (p.round.later (c.args.turn.plan.m - 1) (omega arith)).low)
