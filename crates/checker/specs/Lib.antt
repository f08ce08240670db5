-- The models whose boards the checker reads.
pub mod Models
pub mod Counts
