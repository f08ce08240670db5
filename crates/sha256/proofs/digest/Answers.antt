use Rattle.sha256.proofs.Feed.{fed_first, fed_digest}
use Rattle.sha256.proofs.digest.Goals as goal

pub returns : goal.returns
returns c = fed_digest c.update.result _ (fed_first _ _ _ c.new.ensures c.update.ensures) _ c.finish.ensures
