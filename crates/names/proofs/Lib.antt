-- Laws that the proofs of `names` cite.
pub mod Counting
pub mod Starting
pub mod Comparing
