-- Laws that the proofs of `sentences` cite.
pub mod Puts
pub mod Numbers
pub mod Rounds
pub mod Listing
pub mod Texts
