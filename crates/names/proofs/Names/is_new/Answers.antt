use mathlib.Core.Path.{refl, ◌∙◌}
use mathlib.Core.Bool.{not}
use native.Mathlib.Omega.{arith}
use borrow.Author.Tests.{tests}
use Rattle.std.proofs.Common.{rules}
use Rattle.std.proofs.lemmas.Iterator.{YieldsList-from_range}
use Rattle.std.proofs.lemmas.Iterator.Search.{all_from_yields_List}
use Rattle.std.specs.Str.{bytes_eq}
use Rattle.numbers.proofs.Tests.{all_same}
use Rattle.rules.specs.Notice.{name_of}
use Rattle.names.proofs.Comparing.{same_is, all_range}
use Rattle.names.proofs.Names.is_new.Goals as goal

pub returns : goal.returns
returns c =
    let lent = c.args.self.now.lent.now in
    let chain = YieldsList-from_range {s = record { start = 0; end = c.args.i }} 0 c.args.i c.args.i refl (omega arith) in
    all_from_yields_List (λ j. not (bytes_eq c.name-name.result.now (name_of lent j))) _ _ _ c.all.ensures.ran chain (λ x b q k. search (rules, tests))
    ∙ all_range c.args.i _ ∙ all_same c.args.i _ _ (λ j l. rw (c.name-name.ensures, same_is))
