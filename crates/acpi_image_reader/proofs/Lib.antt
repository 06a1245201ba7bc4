pub mod Images
pub mod Listing
pub mod Sharing
