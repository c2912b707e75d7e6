-- In reading order; Working is how the code works.
pub mod Forms
pub mod Lines
pub mod Working
