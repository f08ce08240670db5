use Rattle.std.proofs.Common.{◌≡◌, length, take}
use Rattle.jobs.specs.Job.{remaining}
use Rattle.rules.specs.Answers.{with_zeros}
use Rattle.count.specs.State.{list_of}
use Rattle.plain.proofs.rankings.still_in.Given as goal

abbrev pub invariant-loop-c : goal.invariant-loop-c
invariant-loop-c l =
    (l.list ≡ with_zeros (remaining (list_of l.gone) (take l.c-index l.c-items))) × (l.found ≡ length (remaining (list_of l.gone) (take l.c-index l.c-items)))
