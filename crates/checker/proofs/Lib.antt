-- Laws that the proofs of `checker` cite.
pub mod Onward
