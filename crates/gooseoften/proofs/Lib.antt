-- What crosses to C fits, and is what check and write answer.
pub mod Codes
pub mod Calls
