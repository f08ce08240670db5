-- The models whose boards the checker reads.
use Rattle.std.specs.Prelude.{◌≤◌}
use Rattle.rules.specs.Header.{ranked}
use Rattle.rules.specs.declared.Model.{Model}

-- boards of a model that are boards of rankings: no fewer processes, no more, and no more ballots
pub record Narrower (model : Model) : Type 0 where
  pub least : ranked.least ≤ model.least
  pub most : model.most ≤ ranked.most
  pub ballots : model.ballots ≤ ranked.ballots
