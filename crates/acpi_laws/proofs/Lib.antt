pub mod Instances
pub mod Placed
pub mod Platforms
