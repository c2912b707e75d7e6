-- In reading order; Working is how the code works.
pub mod Quotients
pub mod Working
