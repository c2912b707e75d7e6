-- In reading order; Working is how the code works.
pub mod Reading
pub mod Writing
pub mod Working
