use Prim.Native.Nat.{ℕ, ◌*◌}
use mathlib.Core.Path.{ap, ◌∙◌}
use mathlib.Core.List.{List}
use native.Mathlib.Omega.{arith}
use lib.ListN.{get_or, length-take, length-drop}
use Rattle.group.specs.Elements.{parameters_of}
use Rattle.output.specs.Written.{written}
use Rattle.output.proofs.Laws.{more}
use Rattle.ballots.proofs.Records.{length_entries, proofs_joined}
use Rattle.ballots.proofs.prover.Prover.write_proofs.Goals as goal

pub write_lines-requires : goal.write_lines-requires
write_lines-requires c = simp (length-take, length-drop) (omega (arith, c.requires))

pub returns : goal.returns
returns c m fed =
    let s = c.args.self in
    let b = s.ballot in
    let g = parameters_of s.setup.group in
    let list : ℕ → ℕ = λ k. get_or b.list k 0 in
    more _ _ _ _ _ _ (length_entries m g b.n b.number list s.draws.now b.from (b.n * b.n)) (c.write_entries.ensures m fed) (c.write_lines.ensures m fed)
    ∙ ap (λ (x : List ℕ). written x c.args.out.now) (proofs_joined m g b.n b.number list s.draws.now b.from s.some)
