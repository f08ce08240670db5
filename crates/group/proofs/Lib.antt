-- Square and multiply, also in Montgomery form, and what the test of an element says.
pub mod Square
pub mod MontgomeryForm
pub mod Newton
pub mod Elements
