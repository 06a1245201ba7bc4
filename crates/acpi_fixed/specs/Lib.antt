pub mod Bgrt
pub mod Fadt
pub mod Flags
pub mod Gpe
pub mod Registers
pub mod View
pub mod Words
