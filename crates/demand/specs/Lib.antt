-- The third demand, of the answers of `check`, `check_small` and `write` themselves.
pub mod Demand
