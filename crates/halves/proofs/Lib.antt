pub mod Runs
pub mod Steps
pub mod Halves
pub mod HalfRuns
pub mod HalfBuffers
pub mod Cuts
