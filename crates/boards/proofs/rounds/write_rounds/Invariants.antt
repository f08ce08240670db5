use Prim.Native.Nat.{ℕ, suc, ◌+◌, ◌*◌, ◌-◌, ◌≤◌}
use mathlib.Core.Path.{◌≡◌}
use lib.ListN.{length}
use Rattle.numbers.specs.Below.{concat_below}
use Rattle.sha256.specs.Message.{sha256}
use Rattle.output.specs.Written.{written}
use Rattle.boards.specs.Parts.{board_job, head_group, draws_before, bytes_before, round_bytes}
use Rattle.boards.proofs.rounds.write_rounds.Given as goal

abbrev pub invariant-loop-m : goal.invariant-loop-m
invariant-loop-m l =
    let job = board_job l.entries in
    (l.m ≤ l.end) × (l.end ≡ l.count.gone.outs + 1) × (length l.out ≡ length l.initial.out) × (l.at + 54 ≡ bytes_before job l.m) × (l.at ≤ l.m * 20000000) × (l.new ≡ draws_before job l.m)
    × ((j : ℕ) → l.m ≡ suc j → l.old ≡ draws_before job j) × (l.old ≤ 10000000)
    × (l.out ≡ written (concat_below l.m (round_bytes sha256 job (head_group l.entries.head) l.count.gone.order)) l.initial.out)

abbrev pub decreases-loop-m : goal.decreases-loop-m
decreases-loop-m l = l.end - l.m
