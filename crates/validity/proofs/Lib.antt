-- Laws of the tests of a job.
pub mod Lists
pub mod Tests
pub mod Chains
pub mod Walk
