pub mod Affinities
pub mod Answers
pub mod ErrorText
pub mod Slit
pub mod Srat
pub mod SratEntries
pub mod SratWalk
pub mod Words
