pub mod ErrorText
pub mod Held
pub mod Image
pub mod Regions
pub mod Starts
pub mod Words
