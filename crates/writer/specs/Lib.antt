-- What the writer's steps come to.
pub mod Steps
