pub mod Steps
pub mod Joints
pub mod JointRuns
pub mod JointParts
pub mod Buffers
