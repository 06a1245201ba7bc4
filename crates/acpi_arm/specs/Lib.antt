pub mod Gic
pub mod Gtdt
pub mod Timers
