-- In reading order.
pub mod Refusals
pub mod Labels
