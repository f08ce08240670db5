-- What 01 says of a board, its checker and the count, and what 02 asks of the ballots' receipts, of equal counts, of the message of a
-- challenge, of audited ballots, of the count in sentences and of the screen in the council room: the definitions alone. Text in quotation
-- marks is 01's but where a file says otherwise.
-- Rounds, ballots, rows, columns and branches are counted from 0; processes from 1.
pub mod Bytes
pub mod Group
pub mod Records
pub mod Proofs
pub mod Claims
pub mod Count
pub mod Tests
pub mod Header
pub mod Audit
pub mod Ballot
pub mod Shift
pub mod Sheet
pub mod Check
pub mod Receipts
pub mod Sentences
pub mod Notice
pub mod Answers
pub mod Openings
