-- What is said of the numbers below a bound, and which numbers are prime.
pub mod Below
pub mod Primes
