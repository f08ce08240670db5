-- What the functions of the library return, by what `check`, `write` and `text` answer.
use Prim.Native.Nat.{ℕ}
use mathlib.Core.Path.{◌≡◌, ◌∙◌, ap}
use mathlib.Core.List.{List}
use Rattle.std.specs.Prelude.{Result, Ok, Err, IfOk}
use Rattle.rules.specs.Check.{Verdict}
use Rattle.rules.specs.Notice.{Telling}
use Rattle.rules.specs.Answers.{verdict_of, order_of, telling_of}
use Rattle.rules.specs.declared.Accepted.{Accepted}
use Rattle.rules.specs.declared.Refused.{Refused}
use Rattle.jobs.specs.Write.{Outcome}
use Rattle.jobs.specs.Replies.{outcome_of, order_written}
use Rattle.jobs.specs.declared.Written.{Written}
use Rattle.jobs.specs.declared.Unwritten.{Unwritten}
use Rattle.gooseoften.specs.Answers.{check_code, check_answer, write_code, write_answer, text_code, text_answer}
use Rattle.gooseoften.specs.Puts.{check_put, reply_put, told_put}

-- the array holds the order and its zeros
put_is : (r : Result Accepted Refused) (answer : List ℕ) (v : Verdict) → verdict_of r ≡ v → IfOk r (λ a. a.order ≡ order_of v) → check_put r answer ≡ check_answer v answer
put_is (Ok a) answer v e o = let p = rw (← e) at o in rw (← e, ← p)
put_is (Err e') answer v e o = rw (← e)

reply_is : (r : Result Written Unwritten) (answer : List ℕ) (v : Outcome) → outcome_of r ≡ v → IfOk r (λ w. w.order ≡ order_written v) → reply_put r answer ≡ write_answer v answer
reply_is (Ok w) answer v e o = let p = rw (← e) at o in rw (← e, ← p)
reply_is (Err u) answer v e o = rw (← e)

told_is : (r : Result ℕ Refused) (out answer : List ℕ) (t : Telling) → telling_of r out ≡ t → told_put r answer ≡ text_answer t answer
told_is (Ok long) out answer t e = rw (← e)
told_is (Err e') out answer t e = rw (← e)

pub checked : (v : Verdict) (answer exit : List ℕ) (r : Result Accepted Refused) (code : ℕ) → verdict_of r ≡ v → IfOk r (λ a. a.order ≡ order_of v) →
    code ≡ check_code (verdict_of r) → exit ≡ check_put r answer → (code ≡ check_code v) × (exit ≡ check_answer v answer)
checked v answer exit r code e o ec ex = (ec ∙ ap check_code e, ex ∙ put_is r answer v e o)

pub replied : (v : Outcome) (answer exit : List ℕ) (r : Result Written Unwritten) (code : ℕ) → outcome_of r ≡ v → IfOk r (λ w. w.order ≡ order_written v) →
    code ≡ write_code (outcome_of r) → exit ≡ reply_put r answer → (code ≡ write_code v) × (exit ≡ write_answer v answer)
replied v answer exit r code e o ec ex = (ec ∙ ap write_code e, ex ∙ reply_is r answer v e o)

pub told : (t : Telling) (answer exit out : List ℕ) (r : Result ℕ Refused) (code : ℕ) → telling_of r out ≡ t →
    code ≡ text_code (telling_of r out) → exit ≡ told_put r answer → (code ≡ text_code t) × (exit ≡ text_answer t answer)
told t answer exit out r code e ec ex = (ec ∙ ap text_code e, ex ∙ told_is r out answer t e)
