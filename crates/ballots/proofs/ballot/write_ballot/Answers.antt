use Prim.Native.Nat.{ℕ}
use mathlib.Core.Path.{sym, ap, ◌∙◌}
use mathlib.Core.List.{List}
use native.Mathlib.Omega.{arith}
use lib.ListN.{get_or, length-take, length-drop}
use Rattle.group.specs.Elements.{parameters_of}
use Rattle.layout.proofs.Rounds.{length_audited}
use Rattle.output.specs.Written.{written}
use Rattle.output.proofs.Laws.{more}
use Rattle.ballots.proofs.Records.{length_body, ballot_audited, ballot_other}
use Rattle.ballots.proofs.ballot.write_ballot.Goals as goal

pub write_audit-requires : goal.write_audit-requires
write_audit-requires c =
    let b = c.args.b in
    let long = length_audited b.n b.kind (sym c.from.ensures ∙ c.if-from-eq-AUDITED.true) in
    (c.requires.ready.2, simp (length-take, length-drop) (omega (arith, long, c.requires.ready.3, c.counted_length-at.ensures.0, c, c)), omega (arith, c.requires.draws_below.near), omega (arith, c.requires.draws_below.enough))

pub returns-else-from-eq-AUDITED : goal.returns-else-from-eq-AUDITED
returns-else-from-eq-AUDITED c =
    let f = c.args in
    c.write_body.ensures
    ∙ ap (λ (x : List ℕ). written x f.out.now) (ballot_other f.label.now (parameters_of f.g.group) f.b.n f.b.number (λ k. get_or f.b.list k 0) f.draws.now f.b.from f.b.kind (λ e. c.if-from-eq-AUDITED.false (c.from.ensures ∙ e)))

pub returns-then-from-eq-AUDITED : goal.returns-then-from-eq-AUDITED
returns-then-from-eq-AUDITED c =
    let f = c.args in
    let g = parameters_of f.g.group in
    let list : ℕ → ℕ = λ k. get_or f.b.list k 0 in
    more _ _ _ _ _ _ (length_body f.label.now g f.b.n f.b.number list f.draws.now f.b.from f.b.kind ∙ sym c.counted_length-at.ensures.0) c.write_body.ensures c.write_audit.ensures
    ∙ ap (λ (x : List ℕ). written x f.out.now) (ballot_audited f.label.now g f.b.n f.b.number list f.draws.now f.b.from f.b.kind (sym c.from.ensures ∙ c.if-from-eq-AUDITED.true))
