pub mod RowWays
pub mod Options
