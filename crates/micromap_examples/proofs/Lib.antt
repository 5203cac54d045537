mod HeadLemmas
pub mod OrderLemmas
pub mod ReachLemmas
mod RecencyLemmas
pub mod ScopeLemmas
