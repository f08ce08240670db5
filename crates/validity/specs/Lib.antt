-- The job of the rules that a call is given, and what its tests tell.
pub mod Jobs
pub mod Tests
