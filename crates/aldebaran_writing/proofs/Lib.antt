-- In reading order: each file cites those before it.
pub mod TextLengths
pub mod TextPieces
pub mod TextWriting
pub mod Values
