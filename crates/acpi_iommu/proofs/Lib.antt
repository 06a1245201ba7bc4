pub mod Cuts
mod Sure
pub mod Units
