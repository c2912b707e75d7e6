pub mod Joined
pub mod JoinCalls
pub mod Values
