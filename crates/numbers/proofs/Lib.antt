-- The laws of sums, products and tests below a bound; tables filled by a rule; congruences and primes; roots of unity; and what they say of proofs of equal exponents.
pub mod Search
pub mod Tests
pub mod Powers
pub mod Congruence
pub mod Residues
pub mod Sums
pub mod Products
pub mod Blocks
pub mod Tables
pub mod Primes
pub mod TrialDivision
pub mod Fermat
pub mod RootsOfUnity
pub mod Polynomials
pub mod Elements
pub mod SpecialSoundness
pub mod Completeness
