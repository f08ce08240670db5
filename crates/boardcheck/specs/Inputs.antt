-- What reading to the end may come to. Which bytes are read is the system's to say.
use Rattle.std.specs.Prelude.{ℕ, ◌<◌, List, length, Option, Some, None, Result, Ok, Err}
use Rattle.io.specs.Counts.{IsPrefixLen}

-- a whole input is shorter than the room, so that its end was seen
abbrev pub Fits : {E : Type 0} → (room : List ℕ) → Result (Option ℕ) E → Type 0
Fits room (Ok (Some count)) = (count < length room) × IsPrefixLen count room
Fits room (Ok None) = Unit
Fits room (Err error) = Unit
