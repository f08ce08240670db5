-- Laws that the proofs of `notice` cite.
pub mod Telling
pub mod Boards
