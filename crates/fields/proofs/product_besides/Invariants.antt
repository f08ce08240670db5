use Prim.Native.Nat.{◌+◌, ◌*◌, ◌%◌}
use mathlib.Core.Path.{◌≡◌}
use Rattle.numbers.specs.Below.{prod_below}
use Rattle.rules.specs.Bytes.{number4}
use Rattle.rules.specs.Claims.{besides}
use Rattle.fields.proofs.product_besides.Given as goal

abbrev pub invariant-loop-j : goal.invariant-loop-j
invariant-loop-j l = l.r.0 ≡ prod_below l.j (besides l.out (λ j. number4 l.s (l.at + l.stride * j))) % l.p
