-- In reading order.
pub mod Digits
pub mod Outputs
