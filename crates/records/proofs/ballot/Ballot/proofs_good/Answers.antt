use Prim.Native.Nat.{◌+◌, ◌*◌}
use mathlib.Core.Path.{refl, sym, ◌∙◌}
use Rattle.std.proofs.Common.{rules}
use Rattle.records.specs.Parts.{entry_good, line_good}
use Rattle.records.proofs.Ranges.{all_of_range}
use Rattle.records.proofs.ballot.Ballot.proofs_good.Goals as goal

pub returns-then-all : goal.returns-then-all
returns-then-all c =
    let a = c.args.self.now in
    let entries = all_of_range (a.h.n * a.h.n) (entry_good a.board.now a.h a.at) _ _ _ refl c.all.ensures.ran (λ x b q k. search rules) in
    let lines = all_of_range (a.h.n + a.h.n) (line_good a.board.now a.h a.at) _ _ _ refl c.all-then-all.ensures.ran (λ x b q k. search rules) in
    rw (sym entries ∙ c.if-all.true) lines

pub returns-else-all : goal.returns-else-all
returns-else-all c =
    let a = c.args.self.now in
    let entries = all_of_range (a.h.n * a.h.n) (entry_good a.board.now a.h a.at) _ _ _ refl c.all.ensures.ran (λ x b q k. search rules) in
    rw (sym entries ∙ c.if-all.false) c.if-all.false
