-- The parts of the tests of a BA or SH record at the place where it starts, and what they tell.
pub mod Passes
pub mod Parts
