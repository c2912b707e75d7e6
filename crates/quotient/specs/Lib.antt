-- In reading order; Working is how the code works.
pub mod Calls
pub mod Demand
pub mod Working
