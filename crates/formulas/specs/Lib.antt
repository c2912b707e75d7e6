-- In reading order; Working is how the code works.
pub mod Operators
pub mod Formulas
pub mod Working
