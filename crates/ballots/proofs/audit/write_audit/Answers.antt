use Prim.Native.Nat.{ℕ, ◌*◌}
use mathlib.Core.Path.{ap, ◌∙◌}
use mathlib.Core.List.{List}
use native.Mathlib.Omega.{arith}
use Rattle.output.specs.Written.{written}
use Rattle.output.proofs.Laws.{more}
use Rattle.rules.proofs.Sizes.{cells}
use Rattle.ballots.proofs.Records.{length_exponents, audit_joined}
use Rattle.ballots.proofs.audit.write_audit.Goals as goal

pub returns : goal.returns
returns c =
    let f = c.args in
    more _ _ _ _ _ _ (length_exponents (f.b.n * f.b.n) f.draws.now f.b.from) c.write_exponents.ensures c.put_bytes.ensures
    ∙ ap (λ (x : List ℕ). written x f.out.now) (audit_joined f.b.n f.b.list f.draws.now f.b.from (omega (arith, c.requires.0, c)))

pub write_exponents-requires : goal.write_exponents-requires
write_exponents-requires c = (cells c.args.b.n c.requires.0, omega (arith, c.requires), c.requires.2, c.requires.3)
