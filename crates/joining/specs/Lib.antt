-- In reading order; Working is how the code works.
pub mod Joinings
pub mod Working
