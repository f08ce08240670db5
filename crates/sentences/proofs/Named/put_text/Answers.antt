use mathlib.Core.Path.{◌≡◌, refl, sym}
use mathlib.Core.List.{[]}
use Rattle.std.proofs.Common.{rules}
use Rattle.output.specs.Written.{written}
use Rattle.output.proofs.Laws.{none}
use Rattle.sentences.specs.Lines.{text_named}
use Rattle.sentences.proofs.Named.put_text.Goals as goal

pub returns : goal.returns
returns c =
    let p : (c.put_lines.new.sink.out.now ≡ written (text_named c.args.self.now) c.args.out.now) = c.put_lines.ensures.taken.1.puts [] c.args.out.now refl (none _) in
    let q = sym c.put_lines.ensures.taken.0 in
    rw (← p) (search rules)
