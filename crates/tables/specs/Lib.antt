-- In reading order; Working is how the code works.
pub mod Tables
pub mod Working
