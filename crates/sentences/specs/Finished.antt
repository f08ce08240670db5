-- A count that has ended, for a text.
use Rattle.std.specs.Prelude.{ℕ, ◌≤◌}
use Rattle.rules.specs.Sentences.{who_in}
use Rattle.count.specs.declared.Ended.{Ended}
use Rattle.count.specs.State.{result_of, Kept}

-- of at most 8 rounds, and whoever leaves or wins is one of the n
pub record Finished (n : ℕ) (e : Ended) : Type 0 where
  pub kept : Kept e.count
  pub few : e.count.gone.outs ≤ 7
  pub low : (m : ℕ) → m ≤ e.count.gone.outs → 1 ≤ who_in (result_of n e) m
  pub high : (m : ℕ) → m ≤ e.count.gone.outs → who_in (result_of n e) m ≤ n
