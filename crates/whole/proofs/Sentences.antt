-- No two results with names read alike.
pub mod Decimals
pub mod Lines
pub mod Rounds
pub mod Names
pub mod Boards
pub mod Lengths
use Prim.Native.Nat.{ℕ}
use mathlib.Core.List.{List}
use Rattle.whole.specs.Sentences.{Sentences, Notices}
use Rattle.whole.proofs.SecondDemand.{second_demand}
use Rattle.whole.proofs.Sentences.Decimals.{is_decimal, reads_back, one_way}
use Rattle.whole.proofs.Sentences.Rounds.{told}
use Rattle.whole.proofs.Sentences.Names.{good_names, lent_same}
use Rattle.whole.proofs.Sentences.Boards.{is_result, counts_small, boards_apart, board_plain}
use Rattle.whole.proofs.Sentences.Lengths.{board_enough}

pub sentences : Sentences
sentences = record { is_decimal = is_decimal; reads_back = reads_back; one_way = one_way; apart = told; lent_good = good_names; lent_same = lent_same }

pub notices : (hash : List ℕ → List ℕ) → Notices hash
notices hash =
    record {
      of_boards = λ s rounds order winner a. is_result s hash rounds order winner (((second_demand hash).accepted_iff s rounds order winner).0 a);
      small = λ s rounds order winner a. counts_small s hash rounds order winner (((second_demand hash).accepted_iff s rounds order winner).0 a);
      apart = boards_apart hash;
      plain = board_plain hash;
      enough = board_enough hash;
    }
