pub mod CacheLends
pub mod Frame
pub mod Graph
pub mod Headers
pub mod Heads
pub mod Order
pub mod Recency
