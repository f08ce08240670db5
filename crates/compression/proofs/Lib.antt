-- Laws of the schedule and the rounds.
pub mod Laws
