-- The tests of the BA and SH records.
pub mod Tested
pub mod BallotTables
pub mod Ranges
