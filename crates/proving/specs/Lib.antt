-- How a proof is made, in the terms of the rules.
pub mod Plans
