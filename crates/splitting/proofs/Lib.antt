pub mod Counts
pub mod LogRuns
pub mod Outcomes
pub mod SplitCalls
pub mod Unrolling
pub mod AllSplittings
pub mod Values
