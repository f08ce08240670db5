use mathlib.Core.Path.{refl}
use Rattle.rules.proofs.Digests.{few_digests}
use Rattle.digests.proofs.Digests.count.Goals as goal

pub returns : goal.returns
returns c = (refl, few_digests _ c.args.self.now.good)
