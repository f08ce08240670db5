-- Laws of the rounds of a board written.
pub mod Walk
pub mod Columns
pub mod Plans
pub mod RoundPlans
