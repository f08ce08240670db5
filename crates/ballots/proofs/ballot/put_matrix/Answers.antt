use Prim.Native.Nat.{◌≤◌}
use native.Mathlib.Omega.{arith}
use lib.ListN.{length, get_or}
use mathlib.Core.Path.{◌∙◌}
use Rattle.group.specs.Elements.{parameters_of}
use Rattle.jobs.specs.Records.{pair_bytes, matrix_of}
use Rattle.jobs.proofs.Lengths.{length_pairs}
use Rattle.ballots.proofs.Pages.{front_stands}
use Rattle.rules.proofs.Sizes.{cells}
use Rattle.ballots.proofs.ballot.put_matrix.Goals as goal

pub write_pairs-requires : goal.write_pairs-requires
write_pairs-requires c =
    let p = c.requires in
    (p.0, p.1, p.2, p.2, omega (arith, p.5, cells c.args.b.n p.2), p.3, p.4)

pub returns : goal.returns
returns c =
    let f = c.args in
    let M = matrix_of (parameters_of f.g) f.b.n (λ k. get_or f.b.list k 0) f.draws.now f.b.from in
    let few : length (pair_bytes f.b.n M f.b.n) ≤ length f.page.now = omega (arith, length_pairs f.b.n M f.b.n, cells f.b.n c.requires.2, c.requires.5) in
    let w = front_stands (pair_bytes f.b.n M f.b.n) f.page.now _ c.write_pairs.ensures few in
    (w.0 ∙ c.requires.5, w.1)
