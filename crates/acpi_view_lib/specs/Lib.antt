pub mod Command
pub mod Lines
pub mod Output
pub mod PlatformLines
pub mod Status
