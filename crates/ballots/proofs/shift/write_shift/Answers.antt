use Prim.Native.Nat.{ℕ, ◌+◌, ◌*◌, ◌-◌, ◌≤◌}
use mathlib.Core.Path.{ap, ◌∙◌}
use mathlib.Core.List.{List}
use native.Mathlib.Omega.{arith}
use lib.ListN.{length-take, length-drop}
use Rattle.group.specs.Elements.{parameters_of}
use Rattle.sha256.proofs.Feed.{fed_first}
use Rattle.output.specs.Written.{written}
use Rattle.output.proofs.Laws.{more}
use Rattle.ballots.specs.Parts.{new_matrix}
use Rattle.ballots.proofs.Pages.{pairs_back}
use Rattle.ballots.proofs.Shifts.{count_few, shift_joined, shift_start}
use Rattle.ballots.proofs.shift.write_shift.Goals.{Start}
use Rattle.ballots.proofs.shift.write_shift.Goals as goal

few : (s : goal.Start) → s.args.s.rows * s.args.s.n ≤ 56
few s = let f = s.args in count_few (parameters_of f.g.group) f.s f.draws.now s.requires.ready.1

pub write_proof-requires : goal.write_proof-requires
write_proof-requires c =
    let page = c.put_matrices.ensures in
    record {
      ready = (simp (length-take, length-drop) (omega (arith, c.requires.n_in_bounds, c, c)), omega (arith, page.0));
      paged = (page.1, page.2);
    }

pub returns : goal.returns
returns c =
    let f = c.args in
    let g = parameters_of f.g.group in
    let fed = fed_first _ _ f.label.now c.new.ensures c.update-labelled.ensures in
    let page = c.put_matrices in
    let e = pairs_back page.new.page 512 f.s.rows f.s.n (512 + 8 * (f.s.rows * f.s.n) - 512) (new_matrix g f.s f.draws.now) (omega arith) page.ensures.2 in
    more _ _ _ _ _ _ (shift_start g f.s f.draws.now c.requires.ready.1 _ e) c.put_shift_front.ensures (c.write_proof.ensures _ fed)
    ∙ ap (λ (x : List ℕ). written x f.out.now) (shift_joined g f.s f.draws.now c.requires.ready.1 f.label.now _ e)

pub put_shift_front-requires : goal.put_shift_front-requires
put_shift_front-requires c = simp (length-take, length-drop) (omega (arith, c.requires.n_in_bounds))
