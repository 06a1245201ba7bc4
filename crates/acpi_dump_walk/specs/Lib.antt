pub mod Passed
pub mod Printed
