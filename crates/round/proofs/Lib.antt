-- Laws that the proofs of `round`, and its users, cite.
pub mod Beginnings
pub mod RecordAt
pub mod Walked
pub mod RoundEnds
