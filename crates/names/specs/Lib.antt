-- What is known of names that are lent.
pub mod Lent
