-- What the code's values stand for in the rules.
pub mod Values
pub mod Lines
pub mod Claims
pub mod Walks
