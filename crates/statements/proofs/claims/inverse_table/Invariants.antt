use mathlib.Core.Path.{◌≡◌}
use lib.ListN.{length}
use Rattle.statements.specs.Claims.{Inverted}
use Rattle.statements.proofs.claims.inverse_table.Given as goal

abbrev pub invariant-loop-u : goal.invariant-loop-u
invariant-loop-u l = record {
  long : length l.inverse-items ≡ l.words;
  inverted : Inverted l.s l.p l.q l.at l.u l.inverse-items;
}
