-- Laws of what the tests of a frame tell.
pub mod Framing
