-- The number and the values of each case of the code's answers.
use Rattle.std.specs.Prelude.{ℕ, ◌-◌, List, ◌++◌, length, take, replicate, Result, Ok, Err}
use Rattle.rules.specs.Check.{Verdict, accepted, refused}
use Rattle.rules.specs.Receipts.{Finding, numbers_found, find_refused}
use Rattle.rules.specs.Notice.{Telling, text_told, text_refused}
use Rattle.rules.specs.declared.Refusal.{Refusal}
use Rattle.rules.specs.declared.Refusal.TheVariants as R
use Rattle.rules.specs.declared.Accepted.{Accepted}
use Rattle.rules.specs.declared.Refused.{Refused}

abbrev pub refusal_number : Refusal → ℕ
refusal_number R.Length = 1
refusal_number R.Mark = 2
refusal_number R.Sizes = 3
refusal_number R.Orders = 4
refusal_number R.Generators = 5
refusal_number R.Number = 6
refusal_number R.Field = 7
refusal_number R.Proof = 8
refusal_number R.Count = 9
refusal_number R.Tally = 10
refusal_number R.Out = 11
refusal_number R.Remain = 12
refusal_number R.Rankings = 13
refusal_number R.Draws = 14
refusal_number R.Output = 15
refusal_number R.Digests = 16
refusal_number R.Kind = 17
refusal_number R.Opening = 18
refusal_number R.NoneCounted = 19
refusal_number R.Repeat = 20
refusal_number R.Names = 21
refusal_number R.Limits = 23

-- the checker's answer; of the array of 8 the first rounds - 1 are the order
abbrev pub verdict_of : Result Accepted Refused → Verdict
verdict_of (Ok a) = accepted a.rounds (take (a.rounds - 1) a.order) a.winner
verdict_of (Err e) = refused (refusal_number e.refusal) e.record

-- what the array of 8 holds: the order of going out, then zeros
unfoldable pub with_zeros : (order : List ℕ) → List ℕ
with_zeros order = order ++ replicate (8 - length order) 0

-- zeros alone where the board is refused
abbrev pub order_of : Verdict → List ℕ
order_of (accepted rounds order winner) = with_zeros order
order_of (refused refusal number) = replicate 8 0

-- the answer to digests; the numbers stand at the front of the lent list
abbrev pub finding_of : Result (Unit {0}) Refused → (numbers : List ℕ) → Finding
finding_of (Ok _) numbers = numbers_found numbers
finding_of (Err e) numbers = find_refused (refusal_number e.refusal) e.record

-- the answer to names; the text of so many bytes stands at the front of the lent output
abbrev pub telling_of : Result ℕ Refused → (out : List ℕ) → Telling
telling_of (Ok long) out = text_told long (take long out)
telling_of (Err e) out = text_refused (refusal_number e.refusal) e.record
