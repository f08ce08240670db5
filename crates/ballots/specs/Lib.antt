-- The records of a ballot in the terms of what the code is handed.
pub mod Parts
