pub mod Lockstep
pub mod Rows
