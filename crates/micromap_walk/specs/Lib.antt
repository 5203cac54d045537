pub mod Closures
pub mod Filled
pub mod Lends
