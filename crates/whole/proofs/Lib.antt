-- The proofs: the second demand, both halves of the third, audited ballots, the refusals, draws that repeat, the receipts, the sentences, the messages, the screen's entry and the starred cases.
pub mod Rules
pub mod Verdicts
pub mod Sound
pub mod Complete
pub mod FirstFails
pub mod SecondDemand
pub mod ThirdDemand
pub mod Audited
pub mod Refusals
pub mod SmallLimits
pub mod Repeats
pub mod EqualCounts
pub mod Receipts
pub mod Messages
pub mod Sentences
pub mod Lengths
pub mod Worked
