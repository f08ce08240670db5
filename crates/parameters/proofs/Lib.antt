-- Laws that the proofs of `parameters`, and its users, cite.
pub mod Rules
