-- The length of a record in each round.
pub mod Rounds
