-- Laws of the pages, secrets and proofs of a ballot's records.
pub mod Pages
pub mod Secrets
pub mod Entries
pub mod Records
pub mod Shifts
