-- What pairs open to, as the code goes through them.
pub mod Shown
