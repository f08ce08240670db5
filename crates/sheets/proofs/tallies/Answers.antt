use mathlib.Core.Path.{refl}
use Rattle.std.proofs.Common.{rules}
use Rattle.sheets.proofs.Ranges.{all_of_range}
use Rattle.sheets.proofs.tallies.Goals as goal

pub returns : goal.returns
returns c = all_of_range _ _ _ _ _ refl c.all.ensures.ran (λ x b q k. search rules)
