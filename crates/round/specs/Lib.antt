-- Where rounds begin, and what they come to.
pub mod Rounds
pub mod Walks
pub mod Outcomes
