use Prim.Native.Nat.{◌+◌, ◌-◌}
use mathlib.Core.Path.{◌≡◌}
use native.Mathlib.Omega.{arith}
use lib.ListN.{get_or}
use Rattle.rules.specs.Notice.{name_length}
use Rattle.names.proofs.Starting.{Spans, spans, name_is}
use Rattle.names.proofs.Names.name.Goals.{Start}
use Rattle.names.proofs.Names.name.Goals as goal

here : (c : goal.Start) → let s = c.args.self.now in Spans s.lent.now s.starts c.args.i
here c = let s = c.args.self.now in spans s.lent.now s.starts s.count c.args.i s.started c.requires

pub returns : goal.returns
returns c =
    let w = here (goal.at.returns c).Start in
    let s = c.args.self.now in
    let long : get_or s.starts (c.args.i + 1) 0 - 1 - get_or s.starts c.args.i 0 ≡ name_length s.lent.now c.args.i = omega (arith, w.from, w.to) in
    name_is _ _ _ _ w.from long

pub overflow_sub-end : goal.overflow_sub-end
overflow_sub-end c = let w = here (goal.at.overflow_sub-end c).Start in omega arith

pub slice_bounds-result-count : goal.slice_bounds-result-count
slice_bounds-result-count c = let w = here (goal.at.slice_bounds-result-count c).Start in omega arith

pub slice_bounds-result-start : goal.slice_bounds-result-start
slice_bounds-result-start c = let w = here (goal.at.slice_bounds-result-start c).Start in omega (arith, w.from, w.to, w.inside)

pub slice_bounds-result-end : goal.slice_bounds-result-end
slice_bounds-result-end c = let w = here (goal.at.slice_bounds-result-end c).Start in omega (arith, w.from, w.to, w.inside)
