pub mod ExtendedFields
pub mod Profiles
pub mod Short
