-- What reading the input may come to.
pub mod Inputs
