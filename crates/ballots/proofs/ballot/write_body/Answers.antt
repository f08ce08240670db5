use Prim.Native.Nat.{ℕ, ◌*◌, ◌≤◌}
use mathlib.Core.Path.{ap, refl, ◌∙◌}
use mathlib.Core.List.{List}
use native.Mathlib.Omega.{arith}
use lib.ListN.{get_or, length-take, length-drop}
use lib.Seq.{length-take-le}
use Rattle.group.specs.Elements.{parameters_of}
use Rattle.sha256.proofs.Feed.{fed_first}
use Rattle.output.specs.Written.{written}
use Rattle.output.proofs.Laws.{more}
use Rattle.jobs.specs.Records.{matrix_of}
use Rattle.ballots.proofs.Pages.{pairs_back}
use Rattle.rules.proofs.Sizes.{cells}
use Rattle.ballots.proofs.Records.{body_joined, proofs_start}
use Rattle.ballots.proofs.ballot.write_body.Goals.{After-put_matrix}
use Rattle.ballots.proofs.ballot.write_body.Goals as goal

few : (c : goal.After-put_matrix) → let b = c.args.b in b.n * b.n ≤ 64
few c = cells c.args.b.n c.requires.ready.2

pub invariant_of-prover : goal.invariant_of-prover
invariant_of-prover c =
    let p = c.requires.ready in
    let page = c.put_matrix.ensures in
    record { ready = p.0; some = p.1; few = p.2; drawn = c.requires.draws_below; long = omega (arith, page.0); paged = page.1 }

pub write_proofs-requires : goal.write_proofs-requires
write_proofs-requires c = simp (length-take, length-drop) (omega (arith, c.requires.ready.3, c, c))

pub returns : goal.returns
returns c =
    let f = c.args in
    let g = parameters_of f.g.group in
    let list : ℕ → ℕ = λ k. get_or f.b.list k 0 in
    let fed = fed_first _ _ f.label.now c.new.ensures c.update.ensures in
    let page = c.put_matrix in
    let e = pairs_back page.new.page 0 f.b.n f.b.n (8 * (f.b.n * f.b.n)) (matrix_of g f.b.n list f.draws.now f.b.from) refl page.ensures.1 in
    more _ _ _ _ _ _ (proofs_start f.label.now g f.b.n f.b.number list f.draws.now f.b.from f.b.kind _ e) c.put_ballot_front.ensures (c.write_proofs.ensures _ fed)
    ∙ ap (λ (x : List ℕ). written x f.out.now) (body_joined f.label.now g f.b.n f.b.number list f.draws.now f.b.from f.b.kind _ e)

pub put_ballot_front-requires : goal.put_ballot_front-requires
put_ballot_front-requires c = rw (length-take-le (8 * (c.args.b.n * c.args.b.n)) c.put_matrix.new.page (omega (arith, few (goal.at.put_ballot_front-requires c).After-put_matrix, c.put_matrix.ensures.0)))
    (omega (arith, c.requires.ready.3))
