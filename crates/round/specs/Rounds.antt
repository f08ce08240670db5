-- Where a round begins.
use Rattle.std.specs.Prelude.{ℕ, suc, ◌+◌, ◌≤◌, ◌<◌, ◌≡◌, List, length}
use Rattle.rules.specs.Check.{place, record_number}
use Rattle.header.specs.declared.Head.{Head}
use Rattle.header.specs.Heads.{head_of}
use Rattle.round.specs.declared.Round.{Round}

abbrev pub first_round : Round
first_round = record { m = 0; number = 1; a = 0; before = 0 }

abbrev pub next_round : Round → (number a at : ℕ) → Round
next_round r number a at = record { m = r.m + 1; number = number; a = a; before = at }

-- a further round, ahead of which process a went out
pub record Later (h : Head) (r : Round) : Type 0 where
  pub further : 0 < r.m
  pub early : r.m + 1 < h.n
  pub low : 1 ≤ r.a
  pub high : r.a ≤ h.n

-- a round is read from the position where the walk has it; so was the round before, in which a went out
pub record Begins (s : List ℕ) (h : Head) (at : ℕ) (r : Round) : Type 0 where
  pub here : at ≡ place s (head_of s h) r.m 0
  pub fits : at ≤ length s
  pub numbered : r.number ≡ record_number s (head_of s h) r.m 0
  pub early : r.m + 1 < h.n
  pub first : r.m ≡ 0 → r.before ≡ 0
  pub later : (e : ℕ) → r.m ≡ suc e → (r.before ≡ place s (head_of s h) e 0) × (1 ≤ r.a) × (r.a ≤ h.n)
