-- A refusal's number and its place fit into one code.
use Prim.Native.Nat.{ℕ, ◌≤◌}
use mathlib.Core.Path.{◌≡◌, sym}
use mathlib.Core.List.{List}
use mathlib.Core.Logic.{inl, inr}
use native.Mathlib.Omega.{arith}
use Rattle.sha256.specs.Message.{sha256}
use Rattle.rules.specs.Check.{check_board, check_small}
use Rattle.rules.specs.Receipts.{find_outcome}
use Rattle.rules.specs.Notice.{text_outcome}
use Rattle.rules.specs.Answers.{refusal_number, verdict_of, finding_of, telling_of}
use Rattle.rules.specs.declared.Accepted.{Accepted}
use Rattle.rules.specs.declared.Refused.{Refused}
use Rattle.jobs.specs.Job.{Job}
use Rattle.jobs.specs.Write.{write_outcome}
use Rattle.jobs.specs.Replies.{outcome_of}
use Rattle.jobs.specs.declared.Written.{Written}
use Rattle.jobs.specs.declared.Unwritten.{Unwritten}
use Rattle.std.specs.Prelude.{Result, Ok, Err}
use Rattle.whole.proofs.Refusals.{board_refusal, small_refusal, job_refusal, find_refusal, text_refusal}
use Rattle.gooseoften.specs.Puts.{record_named, ranking_named}

-- at most 7 rounds of 1,000 ballots and a sheet, and a record more
pub placed : (board : List ℕ) (r : Result Accepted Refused) → verdict_of r ≡ check_board sha256 board → record_named r ≤ 7008
placed board (Ok a) e = omega arith
placed board (Err w) e = (board_refusal sha256 board (refusal_number w.refusal) w.record (sym e)).most

-- for the screen as well, or the header
pub small_placed : (board : List ℕ) (r : Result Accepted Refused) → verdict_of r ≡ check_small sha256 board → record_named r ≤ 7008
small_placed board (Ok a) e = omega arith
small_placed board (Err w) e =
    elim (small_refusal sha256 board (refusal_number w.refusal) w.record (sym e)) [ inl h ↦ omega (arith, h.1) | inr h ↦ h.most ]

-- at most 1,000 rankings
pub which_placed : (job : Job) (room : ℕ) (r : Result Written Unwritten) → outcome_of r ≡ write_outcome sha256 job room → ranking_named r ≤ 7008
which_placed job room (Ok w) e = omega arith
which_placed job room (Err u) e =
    omega (arith, (job_refusal sha256 job room (refusal_number u.refusal) u.ranking (sym e)).most)

-- at most 1,000 ballots
pub found_placed : (board digests : List ℕ) (room : ℕ) (r : Result (Unit {0}) Refused) (numbers : List ℕ) → finding_of r numbers ≡ find_outcome sha256 board digests room → record_named r ≤ 7008
found_placed board digests room (Ok _) numbers e = omega arith
found_placed board digests room (Err w) numbers e =
    omega (arith, (find_refusal sha256 board digests room (refusal_number w.refusal) w.record (sym e)).most)

-- a record of the board, or 0
pub told_placed : (board names : List ℕ) (room : ℕ) (r : Result ℕ Refused) (out : List ℕ) → telling_of r out ≡ text_outcome sha256 board names room → record_named r ≤ 7008
told_placed board names room (Ok long) out e = omega arith
told_placed board names room (Err w) out e = (text_refusal sha256 board names room (refusal_number w.refusal) w.record (sym e)).most
