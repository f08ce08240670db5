-- What a job comes to, and the board that is written.
pub mod Outcomes
pub mod Boards
