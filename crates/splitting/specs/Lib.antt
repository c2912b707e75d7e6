-- In reading order; Working is how the code works.
pub mod Splittings
pub mod Working
