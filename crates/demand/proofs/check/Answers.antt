use Rattle.demand.proofs.Answers.{of_check, accepted_is_plain, audited_as_shown}
use Rattle.demand.proofs.check.Goals as goal

pub returns : goal.returns
returns c =
    let e = c.check.ensures in let a = of_check _ _ e.verdict in record {
      verdict = e.verdict;
      order = e.order;
      accepted_is_plain = accepted_is_plain _ _ a;
      audited_as_shown = audited_as_shown _ _ a;
    }
