pub mod Packed
pub mod Placing
pub mod Spans
pub mod TableSums
