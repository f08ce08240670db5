use Rattle.demand.proofs.Answers.{of_small, as_for_the_box, accepted_is_plain, audited_as_shown}
use Rattle.demand.proofs.check_small.Goals as goal

pub returns : goal.returns
returns c =
    let e = c.check_small.ensures in let a = of_small _ _ e.verdict in record {
      verdict = e.verdict;
      order = e.order;
      as_for_the_box = as_for_the_box _ c.check_small.result e.verdict e.order;
      accepted_is_plain = accepted_is_plain _ _ a;
      audited_as_shown = audited_as_shown _ _ a;
    }
