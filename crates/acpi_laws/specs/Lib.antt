pub mod PlatformLaws
pub mod ExampleLaws
pub mod Examples
pub mod PlaceLaws
