-- What is known of a frame that was read.
use Rattle.std.specs.Prelude.{ℕ, ◌+◌, ◌%◌, ◌≤◌, List, length, Option, Some, None}
use Rattle.rules.specs.Bytes.{number4}
use Rattle.job_cases.specs.declared.frame.Numbers.{Numbers}
use Rattle.job_cases.specs.declared.frame.Ends.{Ends}

-- the numbers of a frame, 4 bytes each, behind its name
abbrev pub numbers_at : (s : List ℕ) (at : ℕ) → Numbers
numbers_at s at =
    record {
      job = record { n = number4 s at; k = number4 s (at + 4); p = number4 s (at + 8); q = number4 s (at + 12); g0 = record { 0 = number4 s (at + 16) }; counter = number4 s (at + 20) % 256 };
      length = number4 s (at + 24);
    }

-- the pieces of the frame at a place stand one behind the other, within the input
pub record Within (s : List ℕ) (at : ℕ) (e : Ends) : Type 0 where
  pub named : at + 4 ≤ e.name
  pub labelled : e.name + 32 ≤ e.label
  pub ranked : e.label + 4 ≤ e.rankings
  pub kinds : e.rankings + 4 ≤ e.kinds
  pub drawn : e.kinds + 4 ≤ e.draws
  pub ended : e.draws ≤ length s

unfoldable pub FrameReads : (s : List ℕ) (at : ℕ) → Option Ends → Type 0
FrameReads s at (Some e) = Within s at e
FrameReads s at None = Unit
