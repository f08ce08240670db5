-- Laws of the plain count of lent rankings.
pub mod Counts
pub mod Lists
pub mod Firsts
pub mod Sizes
pub mod Counted
pub mod Sheets
