-- From the contracts of `check`, `check_small` and `write` and the whole-board theorem to the demand.
use Prim.Native.Nat.{ℕ, ◌-◌}
use mathlib.Core.Path.{◌≡◌, sym, ap, subst, ◌∙◌}
use mathlib.Core.List.{List, ◌++◌}
use native.Mathlib.Omega.{arith}
use lib.ListN.{length, take, drop}
use lib.Seq.{take_at, drop_at}
use Rattle.std.proofs.lemmas.Result.{IfOk-weaker}
use Rattle.sha256.specs.Message.{sha256}
use Rattle.rules.specs.Check.{accepted, check_board, check_small}
use Rattle.rules.specs.Answers.{verdict_of, order_of}
use Rattle.std.specs.Prelude.{Result, Ok, Err, IfOk, IsOkAnd}
use Rattle.rules.specs.declared.Accepted.{Accepted}
use Rattle.rules.specs.declared.Refused.{Refused}
use Rattle.jobs.specs.Job.{Job, plain_result, board_length}
use Rattle.jobs.specs.Board.{board}
use Rattle.jobs.specs.Write.{board_written, write_outcome, write_output}
use Rattle.jobs.specs.Replies.{outcome_of}
use Rattle.jobs.specs.declared.Unwritten.{Unwritten}
use Rattle.jobs.specs.declared.Written.{Written}
use Rattle.whole.specs.ThirdDemand.{IsWritten}
use Rattle.whole.proofs.ThirdDemand.{third_demand}
use Rattle.whole.proofs.Audited.{audited}
use Rattle.whole.proofs.SmallLimits.{small_limits, small_demands}
use Rattle.whole.specs.Repeats.{DifferentY}
use Rattle.whole.proofs.Repeats.{repeats}
use Rattle.jobs.proofs.FineJob.{no_refusal}
use Rattle.demand.specs.Demand.{AcceptedIsPlain, AuditedAsShown, AsForTheBox, ValidIsWritten}

-- a board that is accepted in an answer is accepted by the rules, with the answer's rounds, order and winner
abbrev AcceptedByRules : (s : List ℕ) → Result Accepted Refused → Type 0
AcceptedByRules s r = (a : Accepted) → r ≡ Ok a → check_board sha256 s ≡ accepted a.rounds (take (a.rounds - 1) a.order) a.winner

pub of_check : (s : List ℕ) (r : Result Accepted Refused) → verdict_of r ≡ check_board sha256 s → AcceptedByRules s r
of_check s r e a o = sym e ∙ rw o

pub of_small : (s : List ℕ) (r : Result Accepted Refused) → verdict_of r ≡ check_small sha256 s → AcceptedByRules s r
of_small s r e a o = (((small_demands sha256).accepted_too s a.rounds (take (a.rounds - 1) a.order) a.winner).0 (sym e ∙ rw o)).0

pub as_for_the_box : (s : List ℕ) (r : Result Accepted Refused) → verdict_of r ≡ check_small sha256 s → IfOk r (λ a. a.order ≡ order_of (check_small sha256 s)) → AsForTheBox s r
as_for_the_box s r e o f =
    let same = (small_limits sha256).same s f in
    (e ∙ same, IfOk-weaker r (λ a. a.order ≡ order_of (check_small sha256 s)) (λ a. a.order ≡ order_of (check_board sha256 s)) (λ a p. p ∙ ap order_of same) o)

pub accepted_is_plain : (s : List ℕ) (r : Result Accepted Refused) → AcceptedByRules s r → AcceptedIsPlain s r
accepted_is_plain s r e a rankings o opens =
    (third_demand sha256).accepted_boards s a.rounds (take (a.rounds - 1) a.order) a.winner rankings (e a o) opens

pub audited_as_shown : (s : List ℕ) (r : Result Accepted Refused) → AcceptedByRules s r → AuditedAsShown s r
audited_as_shown s r e a k o l c = (audited sha256).opens_as_shown_lem s (a.rounds, take (a.rounds - 1) a.order, a.winner, e a o) k l c

-- a reply whose outcome is a board is one
module _ {P : Written → Type 0} (l rounds : ℕ) (outs : List ℕ) (winner : ℕ) where
  reply_is : (r : Result Written Unwritten) → outcome_of r ≡ board_written l rounds outs winner →
      ((w : Written) → (w.length ≡ l) × (w.rounds ≡ rounds) × (w.winner ≡ winner) × (take (w.rounds - 1) w.order ≡ outs) → P w) → IsOkAnd r P
  reply_is (Ok w) e p = p w (cc, cc, cc, cc)
  reply_is (Err u) e p = absurd (let z : ◌≡◌ {A = ℕ} 0 1 = cc in omega arith)

pub valid_is_written : (job : Job) (before after : List ℕ) (r : Result Written Unwritten) →
    outcome_of r ≡ write_outcome sha256 job (length before) → after ≡ write_output sha256 job before → ValidIsWritten job before after r
unfolding write_output
valid_is_written job before after r e o v d fits =
    let w = (third_demand sha256).written_boards job v d in
    let plain = plain_result job in
    let long : length (board sha256 job) ≡ board_length job = w.is_accepted.measured in
    let holds : after ≡ board sha256 job ++ drop (board_length job) before = o ∙ rw (no_refusal sha256 job (length before) v d fits) in
    let front : take (board_length job) after ≡ board sha256 job = rw holds (take_at (board sha256 job) (drop (board_length job) before) (board_length job) long) in
    reply_is (board_length job) plain.rounds plain.order plain.winner r (e ∙ w.replies (length before) (omega arith) ∙ rw long) (λ a told.
    record {
      replies = (told.0, told.1, told.2);
      orders = rw told.1 at told.3;
      front = subst (λ s. IsWritten sha256 job s plain) (sym front) w;
      different_Y = subst (λ s. DifferentY s plain.rounds) (sym front) ((repeats sha256).different_Y job v d);
      rest = rw holds (drop_at (board sha256 job) (drop (board_length job) before) (board_length job) long);
    })
