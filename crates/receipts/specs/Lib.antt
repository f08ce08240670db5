-- What the functions within rely on, and what they tell.
pub mod Steps
