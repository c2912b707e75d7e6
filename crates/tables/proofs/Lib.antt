pub mod Chunks
pub mod Rows
pub mod Spans
pub mod Searching
pub mod Order
pub mod Judging
pub mod SoundTables
