-- Laws of a proof made in place.
pub mod Stating
pub mod Branches
pub mod Draws
pub mod Joining
