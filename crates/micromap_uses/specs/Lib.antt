pub mod Graphs
pub mod Permissions
pub mod Signed
pub mod Words
