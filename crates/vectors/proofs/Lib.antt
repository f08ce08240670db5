-- How a digest is spelled.
pub mod Text
