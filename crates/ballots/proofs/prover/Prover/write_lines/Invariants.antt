use Prim.Native.Nat.{ℕ, ◌+◌, ◌-◌, ◌≤◌}
use mathlib.Core.Path.{◌≡◌}
use mathlib.Core.List.{List}
use lib.ListN.{length, get_or}
use Rattle.numbers.specs.Below.{concat_below}
use Rattle.sha256.specs.Feed.{Fed}
use Rattle.group.specs.Elements.{parameters_of}
use Rattle.output.specs.Written.{written}
use Rattle.ballots.specs.Parts.{line_of}
use Rattle.ballots.proofs.prover.Prover.write_lines.Given as goal

abbrev pub invariant-loop-t : goal.invariant-loop-t
invariant-loop-t l =
    (l.t ≤ l.self.ballot.n + l.self.ballot.n) × (length l.out ≡ length l.initial.out)
    × ((m : List ℕ) → Fed l.self.labelled m → l.out ≡ written (concat_below l.t (line_of m (parameters_of l.self.setup.group) l.self.ballot.n l.self.ballot.number (λ k. get_or l.self.ballot.list k 0) l.self.draws.now l.self.ballot.from)) l.initial.out)

abbrev pub decreases-loop-t : goal.decreases-loop-t
decreases-loop-t l = l.self.ballot.n + l.self.ballot.n - l.t
