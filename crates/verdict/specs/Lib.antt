-- In reading order; Working is how the code works.
pub mod Verdicts
pub mod Working
