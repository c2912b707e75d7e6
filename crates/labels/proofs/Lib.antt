pub mod Slices
pub mod Outputs
pub mod Refusals
pub mod Labels
pub mod Answers
