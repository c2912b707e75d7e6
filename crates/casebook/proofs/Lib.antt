pub mod PartLengths
pub mod Reading
pub mod RoundTrip
pub mod Registrar
pub mod Enough
pub mod Writing
pub mod Values
