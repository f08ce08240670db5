-- What the library's inner functions are given, and what they put into an answer.
use Rattle.std.specs.Prelude.{ℕ, List, [], ◌∷◌, ◌++◌, Result, Ok, Err}
use Rattle.rules.specs.declared.Accepted.{Accepted}
use Rattle.rules.specs.declared.Refused.{Refused}
use Rattle.jobs.specs.declared.Written.{Written}
use Rattle.jobs.specs.declared.Unwritten.{Unwritten}
use Rattle.output.specs.Written.{written}
use Rattle.gooseoften.specs.Answers.{result_numbers}

-- the record, or the ranking, that a refusal names; 0 where nothing is refused
abbrev pub record_named : {A : Type 0} → Result A Refused → ℕ
record_named (Ok a) = 0
record_named (Err e) = e.record

abbrev pub ranking_named : Result Written Unwritten → ℕ
ranking_named (Ok w) = 0
ranking_named (Err u) = u.ranking

-- the order stands in an array of 8 with its zeros
abbrev pub check_put : Result Accepted Refused → (answer : List ℕ) → List ℕ
check_put (Ok a) answer = written (result_numbers a.rounds a.winner a.order) answer
check_put (Err e) answer = answer

abbrev pub reply_put : Result Written Unwritten → (answer : List ℕ) → List ℕ
reply_put (Ok w) answer = written (result_numbers w.rounds w.winner w.order ++ (w.length ∷ [])) answer
reply_put (Err u) answer = answer

abbrev pub told_put : Result ℕ Refused → (answer : List ℕ) → List ℕ
told_put (Ok long) answer = written (long ∷ []) answer
told_put (Err e) answer = answer
