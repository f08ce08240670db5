use Rattle.compression.specs.Block.{rounds}
use Rattle.compression.proofs.Laws.{Eight}
use Rattle.compression.proofs.compress.Given as goal

abbrev pub invariant-loop-t : goal.invariant-loop-t
invariant-loop-t l = Eight (rounds l.ws l.state l.t) l.a l.b l.c l.d l.e l.f l.g l.h
