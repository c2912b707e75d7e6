-- In reading order; Working is how the code works.
pub mod Sheets
pub mod Blocks
pub mod Working
