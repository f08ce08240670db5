use Rattle.sha256.proofs.Feed.{fed_first, fed_more}
use Rattle.records.proofs.prefix.Goals as goal

pub returns : goal.returns
returns c =
    let label = fed_first _ _ _ c.new.ensures c.update-labelled.ensures in
    rw (← c.number2-number.ensures) (fed_more _ _ label _ _ c.feed_context.ensures)
