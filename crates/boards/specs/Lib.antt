-- The parts of a board as the code writes them.
pub mod Parts
