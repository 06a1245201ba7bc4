pub mod DumpText
pub mod Extract
pub mod Given
pub mod Held
pub mod Inputs
pub mod Listed
