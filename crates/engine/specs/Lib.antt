-- In reading order; Working is how the code works.
pub mod Answers
pub mod Working
