-- Laws of the writer's definitions.
pub mod Lists
pub mod Rankings
pub mod Lengths
pub mod Commitments
pub mod Same
pub mod Draws
pub mod Repeats
pub mod Matrices
pub mod Positions
pub mod FineJob
pub mod Counting
