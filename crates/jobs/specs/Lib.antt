-- What 01 says of the writer, and 02 since: the definitions alone. Text in quotation marks is 01's, of 02 where it says so.
-- Rounds, ballots, rows, columns, branches and draws are counted from 0; processes from 1.
pub mod Job
pub mod Prover
pub mod Records
pub mod Board
pub mod Write
pub mod Replies
