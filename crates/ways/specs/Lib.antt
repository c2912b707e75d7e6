-- How the code works; what the ways of a step are stands in hml/specs/Compose.
pub mod Working
