-- The tests of the header.
pub mod HeaderTable
