-- From the contracts of `check` and `write` to the third demand.
pub mod Answers
