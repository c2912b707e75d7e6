-- In reading order; Working is how the code works.
pub mod Runs
pub mod Steps
pub mod Halves
pub mod Cuts
pub mod Working
