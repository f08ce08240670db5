-- Laws of the walk, and of what the search answers.
pub mod Walking
pub mod Answering
pub mod Mapping
