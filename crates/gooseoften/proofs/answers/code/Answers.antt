use native.Mathlib.Omega.{arith}
use Rattle.rules.proofs.RefusalNumbers.{number_most}
use Rattle.gooseoften.proofs.answers.code.Goals as goal

pub overflow_add-result : goal.overflow_add-result
overflow_add-result c = omega (arith, c.refusal_number.ensures, number_most c.args.refusal, c.requires)
