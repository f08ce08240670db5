use borrow.Author.Rules.{rules}
use native.Mathlib.Omega.{arith}
use Rattle.std.proofs.lemmas.List.Sorted.{IsPartitionPoint-from_clause}
use Rattle.digests.proofs.Comparing.{at_most, less}
use Rattle.digests.proofs.Parting.{Parted, is_below, is_upto, below_parts, upto_parts, parted}
use Rattle.digests.proofs.Entering.{ordered, all_entered}
use Rattle.digests.proofs.Digests.enter.Goals.{After-partition_point-end}
use Rattle.digests.proofs.Digests.enter.Goals as goal

parts : (c : goal.After-partition_point-end) → let a = c.args in Parted a.self.now.lent.now a.d.now c.partition_point-first.result c.partition_point-end.result
parts c =
    let a = c.args in
    let bytes = a.self.now.lent.now in
    let list = c.list-list.result.now in
    let l = c.list-list.ensures in
    parted bytes a.d.now list l _ _ c.partition_point-first.ensures.bound c.partition_point-end.ensures.bound
    (IsPartitionPoint-from_clause (is_below bytes a.d.now list l) list _ c.partition_point-first.ensures.partitioned (below_parts bytes a.d.now list l a.self.now.good) (λ x r f k. (less _ a.d.now r (search rules), search rules)))
    (IsPartitionPoint-from_clause (is_upto bytes a.d.now list l) list _ c.partition_point-end.ensures.partitioned (upto_parts bytes a.d.now list l a.self.now.good) (λ x r f k. (at_most _ a.d.now r (search rules), search rules)))

pub slice_bounds-fill_free-count : goal.slice_bounds-fill_free-count
slice_bounds-fill_free-count c = omega (arith, ordered _ _ c.args.number (parts (goal.at.slice_bounds-fill_free-count c).After-partition_point-end))

pub slice_bounds-fill_free-start : goal.slice_bounds-fill_free-start
slice_bounds-fill_free-start c = omega (arith, ordered _ _ c.args.number (parts (goal.at.slice_bounds-fill_free-start c).After-partition_point-end))

pub returns : goal.returns
returns c = all_entered _ _ _ (parts (goal.at.returns c).After-partition_point-end) _ _ c.requires c.fill_free.ensures
