-- FIPS 180-4: words and one block.
pub mod Words
pub mod Block
