pub mod Checks
pub mod Written
pub mod WrittenLaws
pub mod WrittenRoot
