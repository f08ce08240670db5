-- The code's header as the rules', and what the checks of the other records may rely on.
use Rattle.std.specs.Prelude.{ℕ, ◌≤◌, ◌≡◌, List, length, Result, Ok, Err}
use Rattle.sha256.specs.Message.{sha256}
use Rattle.group.specs.Elements.{parameters_of}
use Rattle.rules.specs.Bytes.{part}
use Rattle.rules.specs.Records.{header_length}
use Rattle.rules.specs.Header.{Header, header, header_fault}
use Rattle.rules.specs.declared.Model.{Model}
use Rattle.rules.specs.declared.Refusal.{Refusal}
use Rattle.rules.specs.Answers.{refusal_number}
use Rattle.statements.specs.Values.{Ready}
use Rattle.header.specs.declared.Head.{Head}

abbrev pub head_of : (s : List ℕ) → Head → Header
head_of s h = record { n = h.n; K = h.k; group = parameters_of h.setup.group; label = part s 22 32 }

-- on a board of a model
pub record HeaderKnown (model : Model) (s : List ℕ) (h : Head) : Type 0 where
  pub ready : Ready h.setup
  pub low : model.least ≤ h.n
  pub high : h.n ≤ model.most
  pub some : 1 ≤ h.k
  pub few : h.k ≤ model.ballots
  pub long : header_length ≤ length s

-- what reading the header of a board of a model tells
unfoldable pub HeaderReads : Model → (s : List ℕ) → Result Head Refusal → Type 0
HeaderReads model s (Ok h) = (header_fault sha256 model s ≡ 0) × (head_of s h ≡ header s) × HeaderKnown model s h
HeaderReads model s (Err w) = header_fault sha256 model s ≡ refusal_number w
