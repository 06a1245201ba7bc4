pub mod Numbers
pub mod Root
pub mod Save
pub mod Saves
