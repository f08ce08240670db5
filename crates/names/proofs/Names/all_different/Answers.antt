use mathlib.Core.Path.{refl, ◌∙◌}
use mathlib.Core.Bool.{not}
use native.Mathlib.Omega.{arith}
use Rattle.std.proofs.Common.{rules}
use Rattle.std.proofs.lemmas.Iterator.{YieldsList-from_range}
use Rattle.std.proofs.lemmas.Iterator.Search.{all_from_yields_List}
use Rattle.numbers.specs.Below.{all_below}
use Rattle.rules.specs.Receipts.{same}
use Rattle.rules.specs.Notice.{name_of}
use Rattle.names.proofs.Comparing.{all_range}
use Rattle.names.proofs.Names.all_different.Goals as goal

pub returns : goal.returns
returns c =
    let lent = c.args.self.now.lent.now in
    let n = c.args.self.now.count in
    let chain = YieldsList-from_range {s = record { start = 0; end = n }} 0 n n refl (omega arith) in
    all_from_yields_List (λ i. all_below i (λ j. not (same (name_of lent i) (name_of lent j)))) _ _ _ c.all.ensures.ran chain
    (λ x b q k. search rules) ∙ all_range n _
