-- What the tests of a frame tell.
pub mod Framed
