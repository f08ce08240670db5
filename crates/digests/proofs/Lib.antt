-- Laws of digests compared, listed, searched and entered.
pub mod Comparing
pub mod Chunks
pub mod Good
pub mod Parting
pub mod Entering
