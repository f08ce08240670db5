-- The code's statement as the rules', and the setup that the code may rely on.
use Rattle.std.specs.Prelude.{◌-◌, ◌<◌, ◌≡◌}
use Rattle.group.specs.Arithmetic.{pow_mod}
use Rattle.rules.specs.Proofs as said
use Rattle.statements.specs.declared.Setup.{Setup}
use Rattle.statements.specs.declared.Statement.{Statement}

abbrev pub statement_of : Statement → said.Statement
statement_of st = record { left = st.left.0; right = st.right.0 }

-- the inverse of g1 stands beside it
pub record Ready (g : Setup) : Type 0 where
  pub p_pos : 0 < g.group.p
  pub q_pos : 0 < g.group.q
  pub inverse : g.inverse.0 ≡ pow_mod g.group.p g.group.g1.0 (g.group.q - 1)
