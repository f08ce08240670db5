-- Laws of what is shown.
pub mod Rankings
pub mod Matrices
