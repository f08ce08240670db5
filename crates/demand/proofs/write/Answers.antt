use Rattle.demand.proofs.Answers.{valid_is_written}
use Rattle.demand.proofs.write.Goals as goal

pub returns : goal.returns
returns c =
    let e = c.write.ensures in record {
      result_value = e.result_value;
      order_value = e.order_value;
      out_after = e.out_after;
      valid_is_written = valid_is_written _ _ _ _ e.result_value e.out_after;
    }
