use mathlib.Core.Path.{◌∙◌}
use native.Mathlib.Omega.{arith}
use mathlib.Core.Bool.{not}
use borrow.Author.Tests.{tests}
use Rattle.std.proofs.Common.{rules}
use Rattle.std.proofs.lemmas.Iterator.{YieldsList-from_slice}
use Rattle.std.proofs.lemmas.Iterator.Search.{position_from_yields_List}
use Rattle.std.specs.Char.{is_ascii_alphabetic}
use Rattle.rules.proofs.Names.{letters_within}
use Rattle.names.proofs.Counting.{letters_counted}
use Rattle.names.proofs.letters.Goals as goal

pub returns : goal.returns
returns c =
    let s = c.args.s.now in
    let first = position_from_yields_List (λ x. not (is_ascii_alphabetic x)) _ _ _ c.position.ensures.ran (YieldsList-from_slice s cc) (λ x b q k. search (rules, tests)) in
    let e = letters_counted s c.position.result first in
    (c.unwrap_or.ensures ∙ e, omega (arith, letters_within s, c.unwrap_or.ensures, e))
