use mathlib.Core.Path.{refl}
use Rattle.sha256.proofs.Feed.{fed_more}
use Rattle.output.proofs.Laws.{more}
use Rattle.proving.proofs.statement.put_statement.Goals as goal

pub returns : goal.returns
returns c =
    record {
      wrote = more _ _ _ _ _ _ refl (more _ _ _ _ _ _ refl c.put_number4.ensures c.put_number4-2.ensures) c.put_number4-3.ensures;
      fed = λ m f. fed_more _ m f c.feed_statement.result _ c.feed_statement.ensures;
    }
