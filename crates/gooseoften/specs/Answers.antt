-- What a call from C returns, and what its answer then holds.
use Rattle.std.specs.Prelude.{ℕ, ◌+◌, ◌*◌, List, [], ◌∷◌, ◌++◌}
use Rattle.rules.specs.Check.{Verdict, accepted, refused}
use Rattle.rules.specs.Receipts.{Finding, numbers_found, find_refused}
use Rattle.rules.specs.Notice.{Telling, text_told, text_refused}
use Rattle.rules.specs.Answers.{with_zeros}
use Rattle.jobs.specs.Job.{Job}
use Rattle.jobs.specs.Write.{Outcome, board_written, job_refused}
use Rattle.output.specs.Written.{written}

-- "The result of a refusal is its number and the record's number": both in one number
abbrev pub refusal_code : (number place : ℕ) → ℕ
refusal_code number place = number + 256 * place

-- the numbers of a result: rounds, winner and the order of going out in 8 places
abbrev pub result_numbers : (rounds winner : ℕ) (order : List ℕ) → List ℕ
result_numbers rounds winner order = (rounds ∷ winner ∷ []) ++ order

-- ---- check: 0 and the result, or the refusal and no change

abbrev pub check_code : Verdict → ℕ
check_code (accepted rounds order winner) = 0
check_code (refused number place) = refusal_code number place

abbrev pub check_answer : Verdict → (answer : List ℕ) → List ℕ
check_answer (accepted rounds order winner) answer = written (result_numbers rounds winner (with_zeros order)) answer
check_answer (refused number place) answer = answer

-- ---- write: 0 and the result, or the refusal and no change

abbrev pub job : (n K p q g0 counter : ℕ) (label rankings kinds draws : List ℕ) → Job
job n K p q g0 counter label rankings kinds draws =
    record { n = n; K = K; p = p; q = q; g0 = g0; counter = counter; label = label; rankings = rankings; kinds = kinds; draws = draws }

abbrev pub write_code : Outcome → ℕ
write_code (board_written long rounds order winner) = 0
write_code (job_refused number ranking) = refusal_code number ranking

-- with the board's length after it
abbrev pub write_answer : Outcome → (answer : List ℕ) → List ℕ
write_answer (board_written long rounds order winner) answer = written (result_numbers rounds winner (with_zeros order) ++ (long ∷ [])) answer
write_answer (job_refused number ranking) answer = answer

-- ---- find: 0, or the refusal

abbrev pub find_code : Finding → ℕ
find_code (numbers_found numbers) = 0
find_code (find_refused number place) = refusal_code number place

-- ---- text: 0 and the text's length, or the refusal and no change

abbrev pub text_code : Telling → ℕ
text_code (text_told long text) = 0
text_code (text_refused number place) = refusal_code number place

abbrev pub text_answer : Telling → (answer : List ℕ) → List ℕ
text_answer (text_told long text) answer = written (long ∷ []) answer
text_answer (text_refused number place) answer = answer
