pub mod Affinities
