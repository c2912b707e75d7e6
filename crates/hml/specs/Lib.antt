-- The theory of source document 000 as document 01 reads it, in reading order: definitions; the theorems about them
-- stand in proofs/, but for the proofs that a `Pairing` holds (Labels). It knows nothing of tables' and runs' bytes,
-- nor of refusals.

-- the small functions that the definitions use
pub mod Lists
-- definitions 1 and 2: systems, steps, runs
pub mod System
-- definitions 3 and 4: formulas, their meaning, and the same as a test
pub mod Formula
-- two systems side by side, all splittings of a joint run, and joining
pub mod Compose
pub mod Split
pub mod Joining
-- table 1: the quotient
pub mod Quotient
-- document 01: formulas as bytes, labels and their partners, tables as systems
pub mod Spell
pub mod Labels
pub mod Machine
-- not among what a reader has to believe
pub mod Working
