-- Laws of the rules' definitions.
pub mod Faults
pub mod Lists
pub mod Fewer
pub mod Leaving
pub mod Sizes
pub mod Limits
pub mod Orders
pub mod Elements
pub mod Places
pub mod Positions
pub mod Messages
pub mod RefusalNumbers
pub mod Digests
pub mod Decimals
pub mod Names
pub mod Lines
