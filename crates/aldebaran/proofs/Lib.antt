-- In reading order: each file cites those before it.
pub mod LineSplitting
pub mod Exactly
pub mod RowReading
pub mod Order
pub mod Marks
pub mod MarkedRows
pub mod Accepted
pub mod Marking
pub mod Told
pub mod ReadCalls
pub mod RowCalls
pub mod Values
pub mod Cases
pub mod Shuffled
pub mod RoundTrip
