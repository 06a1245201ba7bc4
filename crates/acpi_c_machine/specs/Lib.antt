pub mod Types
pub mod Words
pub mod Writing
pub mod WrittenMachine
