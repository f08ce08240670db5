use Prim.Native.Nat.{ℕ, ◌%◌}
use mathlib.Core.Path.{◌≡◌}
use mathlib.Core.Bool.{true}
use mathlib.Core.List.{List, ◌++◌}
use Rattle.numbers.specs.Below.{all_below, sum_below, concat_below}
use Rattle.sha256.specs.Feed.{Fed}
use Rattle.group.specs.Elements.{parameters_of}
use Rattle.statements.specs.Claims.{claim_of}
use Rattle.statements.proofs.Branches.{here, branch_here, piece, pieces, challenges}
use Rattle.statements.proofs.proof.proof_holds.Given as goal

abbrev pub invariant-loop-i : goal.invariant-loop-i
invariant-loop-i l =
    let claim = claim_of l.board (parameters_of l.g.group) l.claim in record {
      holds : l.holds ≡ true;
      all : all_below l.i (here l.board l.g.group.p l.bases.first.0 l.bases.second.0 claim l.shape.at l.shape.statements l.l) ≡ true;
      fed : (m : List ℕ) → Fed l.initial.h m → Fed l.h (m ++ concat_below l.i (piece l.board claim l.shape.at l.shape.statements l.l));
    }

abbrev pub invariant-branches : goal.invariant-branches
invariant-branches l =
    let claim = claim_of l.board (parameters_of l.g.group) l.claim in record {
      holds : l.holds ≡ true;
      all : all_below l.l (branch_here l.board l.g.group.p l.bases.first.0 l.bases.second.0 claim l.shape.at l.shape.statements) ≡ true;
      sum : l.sum.0 ≡ sum_below l.l (challenges l.board l.shape.at l.shape.statements) % l.g.group.q;
      fed : (m : List ℕ) → Fed l.initial.h m → Fed l.h (m ++ concat_below l.l (pieces l.board claim l.shape.at l.shape.statements));
    }
