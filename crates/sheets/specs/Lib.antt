-- The products and the sheet that the code reads, as the rules'.
pub mod Tallies
pub mod Sheets
