-- The lines of a count that has ended, with names.
use Rattle.std.specs.Prelude.{ℕ, List}
use Rattle.rules.specs.Count.{Result}
use Rattle.rules.specs.Sentences.{line, text}
use Rattle.rules.specs.Notice.{name_of}
use Rattle.count.specs.State.{result_of}
use Rattle.sentences.specs.declared.Named.{Named}

-- its result
abbrev pub result_named : Named → Result
result_named x = result_of x.names.count x.ended

abbrev pub line_named : Named → (m : ℕ) → List ℕ
line_named x m = line x.names.count (name_of x.names.lent.now) (result_named x) m

abbrev pub text_named : Named → List ℕ
text_named x = text x.names.count (name_of x.names.lent.now) (result_named x)
