-- The code's header as the rules'.
pub mod Heads
