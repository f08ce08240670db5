-- The third demand holds, for every hash.
use Prim.Native.Nat.{ℕ}
use mathlib.Core.List.{List}
use Rattle.whole.specs.ThirdDemand.{ThirdDemand}
use Rattle.whole.proofs.Sound.{sound}
use Rattle.whole.proofs.Complete.{fixed, written}

pub third_demand : (hash : List ℕ → List ℕ) → ThirdDemand hash
third_demand hash = record { accepted_boards = sound hash; fixed_boards = fixed hash; written_boards = written hash }
