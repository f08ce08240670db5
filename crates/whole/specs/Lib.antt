-- What is claimed of whole boards: the second and the third demand, audited ballots, what the refusals name, draws that repeat, the receipts found, what a
-- text tells, the messages of challenges, the screen's entry to the checker, and the starred cases.
pub mod Rules
pub mod SecondDemand
pub mod ThirdDemand
pub mod Audited
pub mod Refusals
pub mod SmallLimits
pub mod Repeats
pub mod EqualCounts
pub mod Receipts
pub mod Sentences
pub mod Messages
pub mod Lengths
pub mod Worked
