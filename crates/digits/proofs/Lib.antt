pub mod Clauses
pub mod Puts
pub mod DecimalLaws
pub mod DecimalPuts
pub mod Reading
pub mod HexadecimalLaws
pub mod HexadecimalPuts
pub mod Cases
