-- What a count that has ended owes (Finished), what the lines of a text go into (Pieces, Sinks), and the lines of a count (Lines).
pub mod Finished
pub mod Pieces
pub mod Sinks
pub mod Lines
