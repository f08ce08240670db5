use Rattle.std.proofs.Common.{◌≡◌, ◌+◌, ◌-◌, sym, true≢false, eq-eqb, ◌∙◌, arith}
use Rattle.count.specs.State.{list_of}
use Rattle.count.proofs.Picks.{pick_none, pick_out, pick_first, pick_new, pick_old}
use Rattle.count.proofs.Count.pick.Goals.{then-not-is_out+then-better, then-best-eq0, else-best-eq0, else-not-is_out, else-not-is_out-via-then-not-is_out+else-better, else-not-is_out-via-else-not-is_out}
use Rattle.count.proofs.Count.pick.Goals as goal

pub loop-c-init : goal.loop-c-init
loop-c-init g c = (omega arith, λ test told. pick_none (list_of c.args.self.gone) test)

pub better-requires : goal.better-requires
better-requires g c = c.requires.callable c.loop-c.best c.loop-c.c (omega arith) (omega arith) (omega arith) (omega arith)

pub loop-c-preserved : goal.loop-c-preserved
loop-c-preserved g c =
    let l = c.loop-c in
    let gone = list_of c.args.self.gone in
    let next : l.c + 1 - 1 ≡ l.c = omega arith in
    (elim c.if-not-is_out.branch [
      | then-not-is_out+then-better w ↦
          let out = sym c.is_out.ensures ∙ w.if-not-is_out.true in
          (elim w.if-best-eq0.branch [
            | then-best-eq0 v ↦ (omega (arith, w.best-is), λ test told. rw next (w.best-is ∙ pick_first gone test l.c l.best (omega arith) (l.invariant.1 test told) out v.if-best-eq0.true))
            | else-best-eq0 v ↦ (omega (arith, w.best-is), λ test told. rw next (w.best-is ∙ pick_new gone test l.c l.best (omega arith) (l.invariant.1 test told) out v.if-best-eq0.false (sym (told l.best l.c _ (omega arith) (omega arith) (omega arith) (omega arith) v.better.ensures) ∙ sym v.value-is ∙ w.if-better.true)))
          ])
      | else-not-is_out w ↦ (elim w.else-not-is_out.branch [
        | else-not-is_out-via-then-not-is_out+else-better v ↦
            let out = sym c.is_out.ensures ∙ v.if-not-is_out.true in
            (elim v.if-best-eq0.branch [
              | then-best-eq0 u ↦ absurd (true≢false (sym (eq-eqb l.best 0 u.if-best-eq0.true) ∙ sym u.value-is ∙ v.if-better.false))
              | else-best-eq0 u ↦ (omega (arith, w.best-is), λ test told. rw next (w.best-is ∙ pick_old gone test l.c l.best (omega arith) (l.invariant.1 test told) out u.if-best-eq0.false (sym (told l.best l.c _ (omega arith) (omega arith) (omega arith) (omega arith) u.better.ensures) ∙ sym u.value-is ∙ v.if-better.false)))
            ])
        | else-not-is_out-via-else-not-is_out v ↦ (omega (arith, w.best-is), λ test told. rw next (w.best-is ∙ pick_out gone test l.c l.best (omega arith) (l.invariant.1 test told) (sym c.is_out.ensures ∙ v.if-not-is_out.false)))
      ])
    ])
