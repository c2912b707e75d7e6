-- In reading order: each file cites those before it.
pub mod Lacks
pub mod Fronts
pub mod WrittenNumbers
pub mod WrittenLines
pub mod Scanning
pub mod LineReading
pub mod LabelReading
pub mod LinesInTexts
