pub mod ClosureLemmas
pub mod FilledLemmas
pub mod Lists
pub mod Runs
pub mod Walked
pub mod ZipLemmas
