-- What the functions rely on, and what they tell.
pub mod Order
