use Prim.Native.Nat.{◌%◌}
use mathlib.Core.Path.{◌≡◌, refl, sym, ◌∙◌, ap}
use mathlib.Core.Bool.{true, false, true≢false}
use mathlib.Core.List.{List, ◌++◌}
use native.Mathlib.Nat.{zero-mod}
use native.Mathlib.Omega.{arith}
use Rattle.numbers.specs.Below.{all_below, sum_below, concat_below}
use Rattle.numbers.proofs.Tests.{all_none, all_more, all_end}
use Rattle.sha256.specs.Feed.{Fed}
use Rattle.sha256.specs.Message.{sha256}
use Rattle.sha256.proofs.Feed.{fed_more, fed_digest}
use Rattle.group.specs.Elements.{parameters_of}
use Rattle.rules.specs.Bytes.{number8}
use Rattle.rules.specs.Proofs.{Context, context_bytes, proof_holds}
use Rattle.statements.specs.Claims.{claim_of}
use Rattle.statements.proofs.Branches.{here, branch_here, piece, pieces, challenges, sum_more, fails_there, sums_up, fed_below_none, fed_below_more, fed_branch}
use Rattle.statements.proofs.proof.proof_holds.Goals.{else-branches-test, then-branches-test+then-loop-i-test+then-not-statement_holds, After-feed_statement-h, After-statement_holds, Left-branches}
use Rattle.statements.proofs.proof.proof_holds.Goals as goal

pub branches-init : goal.branches-init
unfolding sum_below
branches-init c = record { holds = refl; all = all_none _; sum = sym (zero-mod c.args.g.group.q); fed = λ m f. fed_below_none _ m _ f }

pub loop-i-init : goal.loop-i-init
loop-i-init c = record { holds = c.branches.invariant.holds; all = all_none _; fed = λ m f. fed_below_none _ m _ f }

-- what the callees say, at the statement's number
this : (c : goal.After-statement_holds) → let a = c.args in
    c.statement_holds.result
    ≡ here a.board.now a.g.group.p a.bases.first.0 a.bases.second.0 (claim_of a.board.now (parameters_of a.g.group) a.claim) a.shape.at a.shape.statements c.branches.l c.loop-i.i
this c =
    let shown = c.shown_at-shown.ensures in
    rw (← c.claimed-st.ensures, ← shown.0, ← shown.1, ← shown.2, ← c.as_exponent-e.ensures) c.statement_holds.ensures

-- and what is fed
said : (c : goal.After-feed_statement-h) → let a = c.args in
    (m : List _) → Fed c.loop-i.h m →
    Fed c.feed_statement-h.result (m ++ piece a.board.now (claim_of a.board.now (parameters_of a.g.group) a.claim) a.shape.at a.shape.statements c.branches.l c.loop-i.i)
said c m f =
    let shown = c.shown_at-shown.ensures in
    rw (← c.claimed-st.ensures, ← shown.0, ← shown.1) (fed_more _ m f c.feed_statement-h.result _ c.feed_statement-h.ensures)

pub loop-i-preserved : goal.loop-i-preserved
loop-i-preserved c =
    let a = c.args in
    let t = c.loop-i in
    record {
      holds = t.invariant.holds;
      all = all_more _ _ t.invariant.all (sym (this (goal.at.loop-i-preserved c).After-statement_holds) ∙ c.if-not-statement_holds.false);
      fed = λ m f. fed_below_more (piece a.board.now (claim_of a.board.now (parameters_of a.g.group) a.claim) a.shape.at a.shape.statements c.branches.l) t.i m c.feed_statement-h.result (said c _ (t.invariant.fed m f));
    }

pub branches-preserved : goal.branches-preserved
branches-preserved c =
    let a = c.args in
    let o = c.branches in
    let t = c.loop-i in
    record {
      holds = t.invariant.holds;
      all = all_more _ _ o.invariant.all (all_end _ _ _ t.auto.i-end c.loop-i-test.false t.invariant.all);
      sum = sum_more a.g.group.q _ _ _ o.l (challenges a.board.now a.shape.at a.shape.statements) o.invariant.sum c.as_exponent-e.ensures c.add-sum.ensures;
      fed = λ m f. fed_branch t.h m a.board.now (claim_of a.board.now (parameters_of a.g.group) a.claim) a.shape.at a.shape.statements o.l t.i (omega arith) (t.invariant.fed _ (o.invariant.fed m f));
    }

-- what holds where the loops end without a failing statement
record Done (c : goal.Left-branches) : Type 0 where
  pub all :
      let a = c.args in
      all_below a.shape.branches (branch_here a.board.now a.g.group.p a.bases.first.0 a.bases.second.0
      (claim_of a.board.now (parameters_of a.g.group) a.claim) a.shape.at a.shape.statements)
      ≡ true
  pub sum :
      let a = c.args in
      c.branches-test.sum.0 ≡ sum_below a.shape.branches (challenges a.board.now a.shape.at a.shape.statements) % a.g.group.q
  pub fed :
      let a = c.args in
      (m : List _) → Fed a.prefix m → Fed c.branches-test.h (m ++ concat_below a.shape.branches (pieces a.board.now (claim_of a.board.now (parameters_of a.g.group) a.claim) a.shape.at a.shape.statements))

-- where the ways out of the loops meet
after : (c : goal.Left-branches) → let a = c.args in
    (c.branches-test.holds ≡ true → Done c)
    × (c.branches-test.holds ≡ false → (label : List _) (k : Context) →
    false ≡ proof_holds a.board.now a.shape.at a.shape.branches a.shape.statements sha256 label k a.g.group.p a.g.group.q
    a.bases.first.0 a.bases.second.0 (claim_of a.board.now (parameters_of a.g.group) a.claim))
after c =
    let a = c.args in
    let o = c.branches in
    elim c.branches-test.branch [
      | else-branches-test w ↦
          let e : o.l ≡ a.shape.branches = omega arith in (
            λ _. record {
              all = rw (← e) o.invariant.all;
              sum = rw (w.sum-is, ← e) o.invariant.sum;
              fed = λ m f. rw (w.h-is, ← e) (o.invariant.fed m f);
            },
            λ z. absurd (true≢false (sym o.invariant.holds ∙ sym w.holds-is ∙ z)),
          )
      | then-branches-test+then-loop-i-test+then-not-statement_holds w ↦
          let shown = w.shown_at-shown.ensures in
          let fails : here a.board.now a.g.group.p a.bases.first.0 a.bases.second.0 (claim_of a.board.now (parameters_of a.g.group) a.claim) a.shape.at
          a.shape.statements o.l w.loop-i.i ≡ false =
          sym (rw (← w.claimed-st.ensures, ← shown.0, ← shown.1, ← shown.2, ← w.as_exponent-e.ensures) w.statement_holds.ensures)
          ∙ w.if-not-statement_holds.true in (
            λ z. absurd (true≢false (sym z ∙ w.holds-is)),
            λ _ label k. fails_there a.board.now label k a.g.group.p a.g.group.q a.bases.first.0 a.bases.second.0
                (claim_of a.board.now (parameters_of a.g.group) a.claim)
                a.shape.at a.shape.branches a.shape.statements o.l w.loop-i.i w.branches-test.true w.loop-i-test.true
                fails,
          )
    ]

pub returns-then-not-holds : goal.returns-then-not-holds
returns-then-not-holds c label k _ = (after (goal.at.returns-then-not-holds c).Left-branches).1 (c.if-not-holds.true) label k

pub returns : goal.returns
returns c label k f =
    let a = c.args in
    let done = (after (goal.at.returns c).Left-branches).0 (c.if-not-holds.false) in
    sums_up a.board.now label k a.g.group.p a.g.group.q a.bases.first.0 a.bases.second.0 (claim_of a.board.now (parameters_of a.g.group) a.claim)
    a.shape.at a.shape.branches a.shape.statements _ _ done.all done.sum
    (c.challenge.ensures ∙ ap (λ (d : List _). number8 d 0 % a.g.group.q)
    (fed_digest _ _ (done.fed (label ++ context_bytes k) f) _ c.finish-digest.ensures))
