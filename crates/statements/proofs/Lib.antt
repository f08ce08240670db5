-- Laws that the proofs of `statements` cite.
pub mod Reading
pub mod Lines
pub mod PlainClaims
pub mod Places
pub mod ShiftClaims
pub mod Branches
pub mod Inverses
