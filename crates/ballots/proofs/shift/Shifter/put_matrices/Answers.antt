use Prim.Native.Nat.{◌+◌, ◌-◌, ◌≤◌}
use mathlib.Core.Path.{◌≡◌, ◌∙◌}
use native.Mathlib.Omega.{arith}
use lib.ListN.{length, length-take, length-drop}
use Rattle.group.specs.Elements.{parameters_of}
use Rattle.jobs.specs.Records.{pair_bytes}
use Rattle.ballots.specs.Parts.{old_matrix, new_matrix}
use Rattle.jobs.proofs.Lengths.{length_pairs}
use Rattle.ballots.proofs.Pages.{front_stands, two_stand}
use Rattle.ballots.proofs.Shifts.{count_few, cells_few}
use Rattle.ballots.proofs.shift.Shifter.put_matrices.Goals as goal

pub write_pairs-requires : goal.write_pairs-requires
write_pairs-requires c =
    let p = c.args.self.shifting in
    let few = cells_few (parameters_of c.args.self.setup.group) c.args.self.shift c.args.self.draws.now p in
    (p.modulus, p.some, p.few, omega (arith, p.fewer), omega (arith, few, c.requires), omega (arith, p.olds.near), p.olds.enough)

pub write_pairs-requires-2 : goal.write_pairs-requires-2
write_pairs-requires-2 c =
    let p = c.args.self.shifting in
    let few = count_few (parameters_of c.args.self.setup.group) c.args.self.shift c.args.self.draws.now p in
    (p.modulus, p.some, p.few, omega (arith, p.fewer), simp (length-take, length-drop) (omega (arith, few, c.requires, c)), omega (arith, p.news.near), omega (arith, p.news.enough))

pub returns : goal.returns
returns c =
    let f = c.args in
    let g = parameters_of f.self.setup.group in
    let B = pair_bytes f.self.shift.n (old_matrix g f.self.shift f.self.draws.now) (f.self.shift.rows + 1) in
    let N = pair_bytes f.self.shift.n (new_matrix g f.self.shift f.self.draws.now) f.self.shift.rows in
    let b : length B ≤ 512 = omega (arith, length_pairs f.self.shift.n (old_matrix g f.self.shift f.self.draws.now) (f.self.shift.rows + 1), cells_few g f.self.shift f.self.draws.now c.args.self.shifting) in
    let n : length N ≤ 448 = omega (arith, length_pairs f.self.shift.n (new_matrix g f.self.shift f.self.draws.now) f.self.shift.rows, count_few g f.self.shift f.self.draws.now c.args.self.shifting) in
    let l = f.page.now in
    let r = c.write_pairs in
    let long : length r.new.out ≡ length l = (front_stands B l _ r.ensures (omega (arith, c.requires))).0 in
    let w = two_stand 512 (length r.new.out - 512) l r.new.out c.write_pairs-2.new.out B N
    (omega (arith, long, c.requires)) r.ensures b (omega (arith, long, c.requires)) c.write_pairs-2.ensures in
    (w.0 ∙ c.requires, w.1, w.2)
