-- In reading order; Working is how the code works.
pub mod Steps
pub mod Joints
pub mod Cases
pub mod Working
