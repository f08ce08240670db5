-- What a program in C is given (Answers), and the contracts of the functions within (Puts).
pub mod Answers
pub mod Puts
