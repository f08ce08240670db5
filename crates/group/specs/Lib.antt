-- Arithmetic modulo p and q, the group's elements, and the parameters of a group.
pub mod Arithmetic
pub mod Elements
